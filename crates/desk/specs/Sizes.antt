-- How much a call at a desk is lent at first, as much as a station works on, and how much a report has room for.
use Rattle.std.specs.Prelude.{ℕ}
use Rattle.station.specs.Image.{table_size, outputs_size}

abbrev pub first_blocks : ℕ
first_blocks = table_size

abbrev pub first_bytes : ℕ
first_bytes = outputs_size

-- the most that a report's place can have
abbrev pub most_room : ℕ
most_room = 64

-- The limits of a sheet.
use Rattle.std.specs.Prelude.{ℕ}

abbrev pub most_bytes : ℕ
most_bytes = 4096

abbrev pub most_rows : ℕ
most_rows = 32

abbrev pub last_row : ℕ
last_row = 31

abbrev pub most_outs : ℕ
most_outs = 16

abbrev pub last_terminal : ℕ
last_terminal = 63

-- milliseconds
abbrev pub least_time : ℕ
least_time = 100

abbrev pub most_time : ℕ
most_time = 60000

abbrev pub pin_count : ℕ
pin_count = 4

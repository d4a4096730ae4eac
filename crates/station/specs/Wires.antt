-- What a wiring promises of each row: its sources stand before it.
use Rattle.std.specs.Prelude.{◌≡◌, ℕ, ◌<◌, true, List, length}
use Rattle.sheet.specs.declared.row.Row.{Row}
use Rattle.sheet.specs.Wired.{source_wired, reset_wired}
use Rattle.station.specs.Rows.{pin, row_at}

-- the sources of row k are constants, terminals and earlier rows
pub record WiredRow (k : ℕ) (r : Row) : Type 0 where
  pub act : source_wired k r.act ≡ true
  pub pin0 : source_wired k (pin r 0) ≡ true
  pub pin1 : source_wired k (pin r 1) ≡ true
  pub pin2 : source_wired k (pin r 2) ≡ true
  pub pin3 : source_wired k (pin r 3) ≡ true
  pub reset : reset_wired r.reset ≡ true

abbrev pub Wired : List Row → Type 0
Wired rows = (k : ℕ) → k < length rows → WiredRow k (row_at rows k)

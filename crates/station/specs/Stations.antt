-- What a call leaves of any station, loaded or not, and of what it is lent.
use Rattle.std.specs.Prelude.{◌≡◌, ℕ, List, [], length, Some, None, Option}
use Rattle.block.specs.Meaning.{Meaning}
use Rattle.sheet.specs.declared.row.Row.{Row}
use Rattle.sheet.specs.declared.wiring.Wiring.{Wiring}
use Rattle.sheet.specs.Wires.{listed, routed}
use Rattle.station.specs.declared.station.Station.{Station}
use Rattle.station.specs.Calls.{Effect, Steps, Stops, Leaves}
use Rattle.station.specs.Image.{all_ones, no_outputs}
use Rattle.station.specs.Outputs.{Shows}
use Rattle.station.specs.Scans.{at, on_in, Scanned, Halted}

-- a station that is not loaded has no rows and no outputs
abbrev pub rows_in : Option Wiring → List Row
rows_in None = []
rows_in (Some w) = listed w

abbrev pub outs_in : Option Wiring → List ℕ
outs_in None = []
outs_in (Some w) = routed w

abbrev pub rows_of : Station → List Row
rows_of s = rows_in s.wiring

abbrev pub outs_of : Station → List ℕ
outs_of s = outs_in s.wiring

-- an accepted scan: each row is stepped, the outputs show the rows, the image is remembered
pub record ScanLeaves {B : Type 0} (m : Meaning B) (image : List ℕ) (elapsed : ℕ) (s s' : Station) (t t' : List B) (o o' : List ℕ) : Type 0 where
  pub wiring : s'.wiring ≡ s.wiring
  pub last : s'.last ≡ image
  pub table : Scanned m (rows_of s) image s.last elapsed (at m t) (at m t')
  pub blocks : length t' ≡ length t
  pub outputs : Shows (outs_of s) (on_in m (at m t')) o'
  pub bytes : length o' ≡ length o

-- a halt: each row is idled, the outputs are 0, an image of all ones is remembered
pub record HaltLeaves {B : Type 0} (m : Meaning B) (s s' : Station) (t t' : List B) (o o' : List ℕ) : Type 0 where
  pub wiring : s'.wiring ≡ s.wiring
  pub last : s'.last ≡ all_ones
  pub table : Halted m (rows_of s) (at m t) (at m t')
  pub blocks : length t' ≡ length t
  pub outputs : o' ≡ no_outputs

-- any other call leaves all as found
pub record LeavesAll {B : Type 0} (s s' : Station) (t t' : List B) (o o' : List ℕ) : Type 0 where
  pub wiring : s'.wiring ≡ s.wiring
  pub last : s'.last ≡ s.last
  pub table : t' ≡ t
  pub outputs : o' ≡ o

abbrev pub CallLeaves : {B : Type 0} → Meaning B → Effect → (s s' : Station) (t t' : List B) (o o' : List ℕ) → Type 0
CallLeaves m (Steps image elapsed) s s' t t' o o' = ScanLeaves m image elapsed s s' t t' o o'
CallLeaves m Stops s s' t t' o o' = HaltLeaves m s s' t t' o o'
CallLeaves m Leaves s s' t t' o o' = LeavesAll s s' t t' o o'

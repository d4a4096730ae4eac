-- The number of each refusal.
use Rattle.std.specs.Prelude.{ℕ}
use Rattle.sheet.specs.Faults.{wiring_told}
use Rattle.station.specs.declared.refusal.LoadRefusal.{LoadRefusal}
use Rattle.station.specs.declared.refusal.LoadRefusal.TheVariants.{Lent, Sheet}
use Rattle.station.specs.declared.refusal.Refusal.{Refusal}
use Rattle.station.specs.declared.refusal.Refusal.TheVariants.{Sizes, Elapsed, Number, Place}

abbrev pub refusal_number : Refusal → ℕ
refusal_number Sizes = 21
refusal_number Elapsed = 22
refusal_number Number = 23
refusal_number Place = 24

-- a sheet's fault keeps its own number
abbrev pub load_number : LoadRefusal → ℕ
load_number Lent = refusal_number Sizes
load_number (Sheet f) = (wiring_told f).number

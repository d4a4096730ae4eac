-- What a loading leaves and answers.
use Rattle.std.specs.Prelude.{◌≡◌, ℕ, true, false, List, [], length, Some, Ok, Err, Result}
use Rattle.block.specs.Meaning.{Meaning}
use Rattle.sheet.specs.declared.wiring.Wiring.{Wiring}
use Rattle.sheet.specs.Loads.{text, Refused}
use Rattle.sheet.specs.Wires.{listed}
use Rattle.station.specs.declared.refusal.LoadRefusal.{LoadRefusal}
use Rattle.station.specs.declared.refusal.LoadRefusal.TheVariants.{Lent, Sheet}
use Rattle.station.specs.declared.station.Station.{Station}
use Rattle.station.specs.Calls.{Read, sizes_allowed}
use Rattle.station.specs.Histories.{History, FollowsRules, Fits}
use Rattle.station.specs.Image.{all_ones, no_outputs}
use Rattle.station.specs.Promises.{GoesOn}
use Rattle.station.specs.Rows.{setup_of, row_at}
use Rattle.station.specs.Scans.{at, EachRow}
use Rattle.station.specs.Stations.{LeavesAll}

-- each row's block is made from the row and the sheet's times; the blocks past the rows are kept
abbrev pub Filled : {B : Type 0} → Meaning B → Wiring → (f g : ℕ → B) → Type 0
Filled m w f g = EachRow (listed w) f g (λ k. g k ≡ m.made (setup_of w.times (row_at (listed w) k)))

-- an accepted loading of the wiring w, which begins a history
pub record LoadLeaves {B : Type 0} (m : Meaning B) (sheet : List ℕ) (s' : Station) (t t' : List B) (o o' : List ℕ) : Type 0 where
  pub wiring : Wiring
  pub written : sheet ≡ text wiring
  pub loaded : s'.wiring ≡ Some wiring
  pub last : s'.last ≡ all_ones
  pub table : Filled m wiring (at m t) (at m t')
  pub blocks : length t' ≡ length t
  pub outputs : o' ≡ no_outputs
  pub begins : (f : History → ℕ → B) → FollowsRules m wiring f → Fits m wiring f [] s' t' o'

-- a refused loading leaves all as found, and is a call of the history that goes on
pub record LoadRefused {B : Type 0} (m : Meaning B) (s s' : Station) (t t' : List B) (o o' : List ℕ) : Type 0 where
  pub leaves : LeavesAll s s' t t' o o'
  pub history : GoesOn m Read s s' t t' o o'

-- the outcome of a loading, by what it answers: the sizes are looked at first, then the sheet
abbrev pub LoadOutcome : {B : Type 0} → Meaning B → Result (Unit {0}) LoadRefusal → (sheet : List ℕ) (s s' : Station) (t t' : List B) (o o' : List ℕ) → Type 0
LoadOutcome m (Ok x) sheet s s' t t' o o' = (sizes_allowed (length t) (length o) ≡ true) × LoadLeaves m sheet s' t t' o o'
LoadOutcome m (Err Lent) sheet s s' t t' o o' = (sizes_allowed (length t) (length o) ≡ false) × LoadRefused m s s' t t' o o'
LoadOutcome m (Err (Sheet f)) sheet s s' t t' o o' = (sizes_allowed (length t) (length o) ≡ true) × Refused sheet f × LoadRefused m s s' t t' o o'

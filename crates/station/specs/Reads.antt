-- What the calls that only read answer.
use Rattle.std.specs.Prelude.{◌≡◌, ℕ, true, false, List, length, Ok, Err, Result, ◌==◌, nat_le, nat_lt, slice_index}
use Rattle.block.specs.Meaning.{Meaning}
use Rattle.sheet.specs.declared.wiring.Wiring.{Wiring}
use Rattle.sheet.specs.Wires.{listed, routed}
use Rattle.station.specs.declared.refusal.Refusal.{Refusal}
use Rattle.station.specs.declared.refusal.Refusal.TheVariants.{Sizes, Elapsed, Number, Place}
use Rattle.station.specs.declared.station.Station.{Station}
use Rattle.station.specs.Calls.{Read}
use Rattle.station.specs.Histories.{History, FollowsRules, Fits}
use Rattle.station.specs.Image.{table_size}
use Rattle.station.specs.Needs.{ListsNeeds, clear_in, made_clear}
use Rattle.station.specs.Promises.{GoesOn}
use Rattle.station.specs.Reports.{Written, report_text}
use Rattle.station.specs.Scans.{at}
use Rattle.station.specs.Stations.{rows_of, outs_of}

-- reading is a call of every history like any other, and changes nothing
abbrev pub Reads : {B : Type 0} → Meaning B → Station → List B → Type 0
Reads m s t = (o : List ℕ) → GoesOn m Read s s t t o o

-- n is the needs list of an output, by the clear words of the blocks that the call is lent
pub record NeedsTold {B : Type 0} (m : Meaning B) (s : Station) (t : List B) (output n : ℕ) : Type 0 where
  pub list : ListsNeeds (clear_in m (at m t)) (rows_of s) (slice_index (outs_of s) output) n
  -- and its only one
  pub only : (x : ℕ) → ListsNeeds (clear_in m (at m t)) (rows_of s) (slice_index (outs_of s) output) x → x ≡ n
  -- after every history it is the list of the blocks as they were made, so the same whatever calls came before
  pub always : (w : Wiring) (f : History → ℕ → B) → FollowsRules m w f → (h : History) (o : List ℕ) → Fits m w f h s t o → ListsNeeds (made_clear m w) (listed w) (slice_index (routed w) output) n

-- the outcome of a needs call: the size is looked at first, then the output's number
abbrev pub NeedsOutcome : {B : Type 0} → Meaning B → Result ℕ Refusal → Station → List B → ℕ → Type 0
NeedsOutcome m (Ok n) s t output = ((length t == table_size) ≡ true) × (nat_lt output (length (outs_of s)) ≡ true) × NeedsTold m s t output n
NeedsOutcome m (Err Sizes) s t output = (length t == table_size) ≡ false
NeedsOutcome m (Err Number) s t output = ((length t == table_size) ≡ true) × (nat_lt output (length (outs_of s)) ≡ false)
NeedsOutcome m (Err Elapsed) s t output = ⊥
NeedsOutcome m (Err Place) s t output = ⊥

-- the least place for a report
abbrev pub report_place : ℕ
report_place = 54

-- a report of row k: its text begins the place, whose rest is left
pub record ReportTold {B : Type 0} (m : Meaning B) (t : List B) (k n : ℕ) (place place' : List ℕ) : Type 0 where
  pub written : Written (report_text m k (at m t k)) place place'
  pub length : n ≡ length (report_text m k (at m t k))

-- the outcome of a report: the size is looked at first, then the row's number, then the place
abbrev pub ReportOutcome : {B : Type 0} → Meaning B → Result ℕ Refusal → Station → List B → ℕ → (place place' : List ℕ) → Type 0
ReportOutcome m (Ok n) s t k place place' = ((length t == table_size) ≡ true) × (nat_lt k (length (rows_of s)) ≡ true) × (nat_le report_place (length place) ≡ true) × ReportTold m t k n place place'
ReportOutcome m (Err Sizes) s t k place place' = ((length t == table_size) ≡ false) × (place' ≡ place)
ReportOutcome m (Err Number) s t k place place' = ((length t == table_size) ≡ true) × (nat_lt k (length (rows_of s)) ≡ false) × (place' ≡ place)
ReportOutcome m (Err Place) s t k place place' = ((length t == table_size) ≡ true) × (nat_lt k (length (rows_of s)) ≡ true) × (nat_le report_place (length place) ≡ false) × (place' ≡ place)
ReportOutcome m (Err Elapsed) s t k place place' = ⊥

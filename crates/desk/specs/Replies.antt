-- What a report at a desk holds.
use Rattle.std.specs.Prelude.{◌≡◌, ℕ, min, List, length, take, Ok, Err, Result}
use Rattle.block.specs.Meaning.{Meaning}
use Rattle.desk.specs.Sizes.{most_room}
use Rattle.desk.specs.declared.report.Report.{Report}
use Rattle.station.specs.declared.refusal.Refusal.{Refusal}
use Rattle.station.specs.declared.station.Station.{Station}
use Rattle.station.specs.Reads.{ReportOutcome}
use Rattle.station.specs.Reports.{report_text}
use Rattle.station.specs.Scans.{at}

abbrev pub report_bytes : Report → List ℕ
report_bytes r = take r.size r.place

-- the length that a report answers
abbrev pub counted : Result Report Refusal → Result ℕ Refusal
counted (Ok r) = Ok r.size
counted (Err e) = Err e

abbrev pub HoldsReport : {B : Type 0} → Meaning B → Result Report Refusal → List B → ℕ → Type 0
HoldsReport m (Ok r) t k = report_bytes r ≡ report_text m k (at m t k)
HoldsReport m (Err e) t k = Unit {0}

-- the report of row k on a place of so many bytes
pub record ReportAnswers {B : Type 0} (m : Meaning B) (r : Result Report Refusal) (s : Station) (t : List B) (k size : ℕ) : Type 0 where
  pub place : List ℕ
  pub place' : List ℕ
  pub room : length place ≡ min size most_room
  pub outcome : ReportOutcome m (counted r) s t k place place'
  pub bytes : HoldsReport m r t k

-- The place of a report at a desk, and the bytes that it holds: the row's report.
use Rattle.std.proofs.Common.{◌≡◌, ℕ, min, List, ◌++◌, length, take, drop, replicate, Ok, sym, ap, ◌∙◌, append_assoc, arith}
use Rattle.std.proofs.lemmas.List.{take_at, length-take-le}
use Rattle.block.specs.Meaning.{Meaning}
use Rattle.station.specs.declared.station.Station.{Station}
use Rattle.station.specs.Reads.{ReportOutcome}
use Rattle.station.specs.Reports.{report_text}
use Rattle.station.specs.Scans.{at}
use Rattle.desk.specs.Sizes.{most_room}

pub place_room : (size room : ℕ) → room ≡ min size most_room → length {A = ℕ} (take room (replicate most_room 0)) ≡ min size most_room
place_room size room e = length-take-le room (replicate most_room 0) (omega arith) ∙ e

pub report_held : {B : Type 0} (m : Meaning B) (s : Station) (t : List B) (k n : ℕ) (place place' rest : List ℕ) → ReportOutcome m (Ok n) s t k place place' → take n (place' ++ rest) ≡ report_text m k (at m t k)
report_held m s t k n place place' rest out =
    let text = report_text m k (at m t k) in
    ap (λ (l : List ℕ). take n (l ++ rest)) out.3.written ∙ ap (take n) (append_assoc text (drop (length text) place) rest) ∙ take_at text _ n (sym out.3.length)

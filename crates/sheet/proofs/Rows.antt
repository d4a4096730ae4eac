-- A row that was read is wired, and its lines are those of its form.
use Rattle.std.proofs.Common.{◌≡◌, ℕ, Bool, true, ◌&&◌, eqb, List, [], ◌∷◌, length, Some, None, codes, Option, refl}
use Rattle.std.specs.List.{list_all}
use Rattle.std.proofs.lemmas.Bool.{and_from, le-leb, lt-ltb, eq-eqb}
use Rattle.block.specs.declared.types.Kind.{Kind}
use Rattle.values.specs.declared.source.Source.{Source}
use Rattle.values.specs.declared.source.Source.TheVariants as source
use Rattle.std.specs.List.{AllByRecursion}
use Rattle.sheet.specs.declared.row.Row.{Row}
use Rattle.sheet.specs.Due.{Took}
use Rattle.sheet.specs.Form.{Accepted}
use Rattle.sheet.specs.Limits.{last_terminal, pin_count}
use Rattle.sheet.specs.Lines.{Place}
use Rattle.sheet.specs.Sheet.{SaidRow, Within, WithinReset, Earlier, kind_due, act_due, pins_due, reset_due, flag_due, row_form}
use Rattle.sheet.specs.Wired.{source_wired, reset_wired, row_wired}
use Rattle.sheet.proofs.Forms.{line_accepted, done_accepted, next_left}

source_on : (k : ℕ) (s : Source) → Within s → Earlier k s → source_wired k s ≡ true
source_on k source.Zero w e = refl
source_on k source.One w e = refl
source_on k (source.Terminal n) w e = le-leb n last_terminal w
source_on k (source.Row n) w e = lt-ltb n k e

sources_on : (k : ℕ) (ss : List Source) → AllByRecursion Within ss → AllByRecursion (Earlier k) ss → list_all (source_wired k) ss ≡ true
sources_on k [] w e = refl
sources_on k (s ∷ ss) w e = and_from (source_wired k s) (list_all (source_wired k) ss) (source_on k s w.0 e.0) (sources_on k ss w.1 e.1)

reset_on : (r : Option ℕ) → WithinReset r → reset_wired r ≡ true
reset_on None w = refl
reset_on (Some n) w = le-leb n last_terminal w

pub wired_from : (k : ℕ) (r : Row) {p q m n i j : Place} → Took (act_due k) r.act p q → Took (pins_due k) r.pins m n → Took reset_due r.reset i j → row_wired k r ≡ true
wired_from k r a b c =
    let four = eqb (length r.pins) pin_count in
    let pins = list_all (source_wired k) r.pins in
    and_from (source_wired k r.act) ((four && pins) && reset_wired r.reset) (source_on k r.act a.keeps.0 a.keeps.1.0)
    (and_from (four && pins) (reset_wired r.reset)
    (and_from four pins (eq-eqb (length r.pins) pin_count b.plain.0) (sources_on k r.pins b.keeps.0 b.keeps.1.0))
    (reset_on r.reset c.keeps.0))

-- its lines, one after the other
module _ (taken : Kind → Bool) (k : ℕ) (s : SaidRow) (p0 p1 p2 p3 p4 p5 p6 : Place) where
  pub row_accepted : Took (kind_due taken) s.kind p0 p1 → Took (act_due k) s.act p1 p2 → Took (pins_due k) s.pins p2 p3 → Took reset_due s.reset p3 p4
      → Took (flag_due (codes "start=") s.kind) s.start p4 p5 → Took (flag_due (codes "auto=") s.kind) s.auto p5 p6 → Accepted (row_form taken k) s p0 p6
  row_accepted a b c d e f =
      line_accepted _ _ _ s p0 p1 p6 a (line_accepted _ _ _ s p1 p2 p6 b (line_accepted _ _ _ s p2 p3 p6 c (line_accepted _ _ _ s p3 p4 p6 d (line_accepted _ _ _ s p4 p5 p6 e (line_accepted _ _ _ s p5 p6 p6 f
      (done_accepted s p6 (next_left _ p5 p6 f.next)))))))

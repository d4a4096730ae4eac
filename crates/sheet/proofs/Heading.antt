-- The head of a sheet, then its rows, then its outputs.
use Rattle.std.proofs.Common.{ℕ, Bool, List, codes}
use Rattle.block.specs.declared.types.Kind.{Kind}
use Rattle.sheet.specs.declared.fault.WiringFault.{WiringFault}
use Rattle.sheet.specs.Due.{Took}
use Rattle.sheet.specs.Form.{Form, done, and_then, many, Accepted, Refuses}
use Rattle.sheet.specs.Limits.{most_rows, most_outs, least_time}
use Rattle.sheet.specs.Lines.{Place}
use Rattle.sheet.specs.Sheet.{SaidRow, Said, count_due, time_due, row_form, out_form, no_row, body_form, sheet_form}
use Rattle.sheet.proofs.Forms.{past, line_accepted, done_accepted, then_accepted, refuses_left, refuses_right}

module _ (taken : Kind → Bool) (count outputs min max : ℕ) where
  abbrev whole : List SaidRow → List ℕ → Said
  whole rows outs = record { count = count; outputs = outputs; min = min; max = max; rows = rows; outs = outs }

  abbrev rows_form : Form (List SaidRow)
  rows_form = many no_row (row_form taken) count

  abbrev outs_form : Form (List ℕ)
  outs_form = many 0 (out_form count) outputs

  abbrev after_rows : List SaidRow → Form Said
  after_rows rows = and_then outs_form (λ s. s.outs) (λ outs. done (whole rows outs))

  body_accepted : (rows : List SaidRow) (outs : List ℕ) (p q r : Place) → Accepted rows_form rows p q → Accepted outs_form outs q r → Accepted (body_form taken count outputs min max) (whole rows outs) p r
  body_accepted rows outs p q r a b =
      then_accepted (λ s. s.rows) after_rows rows_form (whole rows outs) p q r a
      (then_accepted (λ s. s.outs) (λ os. done (whole rows os)) outs_form (whole rows outs) q r r b (done_accepted (whole rows outs) r b.ended))

  module _ (p0 p1 p2 p3 p4 : Place) (a : Took (count_due (codes "rows=") most_rows) count p0 p1) (b : Took (count_due (codes "outs=") most_outs) outputs p1 p2)
      (c : Took (time_due (codes "min=") least_time) min p2 p3) (d : Took (time_due (codes "max=") min) max p3 p4) where
    pub sheet_accepted : (rows : List SaidRow) (outs : List ℕ) (p5 p6 : Place) → Accepted rows_form rows p4 p5 → Accepted outs_form outs p5 p6 → Accepted (sheet_form taken) (whole rows outs) p0 p6
    sheet_accepted rows outs p5 p6 e f =
        let s = whole rows outs in
        line_accepted _ _ _ s p0 p1 p6 a (line_accepted _ _ _ s p1 p2 p6 b (line_accepted _ _ _ s p2 p3 p6 c (line_accepted _ _ _ s p3 p4 p6 d (body_accepted rows outs p4 p5 p6 e f))))

    body_refused : (g : WiringFault) → Refuses (body_form taken count outputs min max) p4 g → Refuses (sheet_form taken) p0 g
    body_refused g r = past a (past b (past c (past d r)))

    pub rows_refused : (g : WiringFault) → Refuses rows_form p4 g → Refuses (sheet_form taken) p0 g
    rows_refused g r = body_refused g (refuses_left (λ s. s.rows) after_rows rows_form p4 g r)

    pub outs_refused : (rows : List SaidRow) (p5 : Place) (g : WiringFault) → Accepted rows_form rows p4 p5 → Refuses outs_form p5 g → Refuses (sheet_form taken) p0 g
    outs_refused rows p5 g e r =
        body_refused g (refuses_right (λ s. s.rows) after_rows rows_form rows p4 p5 g e (refuses_left (λ s. s.outs) (λ os. done (whole rows os)) outs_form p5 g r))

-- Every wiring is lawful, and its text is read as its lines.
use Rattle.std.proofs.Common.{◌≡◌, ℕ, ◌<◌, ◌≤◌, Bool, ◌&&◌, leb, List, ◌++◌, map, length, get_or, sym, refl, ◌∙◌, subst, arith}
use Rattle.std.proofs.lemmas.List.{get_or-map, length-map}
use Rattle.std.proofs.lemmas.Bool.{and_parts, leb-true}
use Rattle.block.specs.declared.types.Kind.{Kind}
use Rattle.values.proofs.Cutting.{cut_cons}
use Rattle.sheet.specs.declared.wiring.Wiring.{Wiring}
use Rattle.sheet.specs.Form.{done, and_then, many, Lawful, Accepted}
use Rattle.sheet.specs.Limits.{most_bytes, least_time, most_time}
use Rattle.sheet.specs.Lines.{Place, pieces, start}
use Rattle.sheet.specs.Loads.{row_said, said, lines_for, text_for, Takes}
use Rattle.sheet.specs.Sheet.{SaidRow, Said, row_form, out_form, no_row, body_form, sheet_form}
use Rattle.sheet.specs.Wires.{listed, routed}
use Rattle.sheet.proofs.Clean.{pieces_from_text}
use Rattle.sheet.proofs.Forms.{then_lawful}
use Rattle.sheet.proofs.Lawful.{row_lawful}
use Rattle.sheet.proofs.Many.{many_lawful}
use Rattle.sheet.proofs.Wide.{wide_lines, wide_sheet}
use Rattle.sheet.proofs.Wired.{any_row}
use Rattle.sheet.proofs.Wires.{rows_table, outs_table, rows_wired, outs_wired}

-- the limits of the two times
record Timely (min max : ℕ) : Type 0 where
  low : least_time ≤ min
  order : min ≤ max
  high : max ≤ most_time

module _ (w : Wiring) where
  timely : Timely w.times.min w.times.max
  timely =
      let min = w.times.min in
      let max = w.times.max in
      let a = and_parts (leb 100 min) (leb min max && leb max 60000) w.times.allowed in
      let b = and_parts (leb min max) (leb max 60000) a.1 in
      record { low = leb-true 100 min a.0; order = leb-true min max b.0; high = leb-true max 60000 b.1 }

  module _ (taken : Kind → Bool) (takes : Takes taken w) where
    row_at : (k : ℕ) → k < w.count → Lawful (row_form taken k) (get_or (said w).rows k no_row)
    row_at k l =
        let few = (rows_table w).few in
        let all = (rows_wired w).all in
        let r = get_or (listed w) k any_row in
        let here : get_or (map row_said (listed w)) k no_row ≡ row_said r = get_or-map row_said (listed w) k any_row no_row (omega arith) in
        subst (Lawful (row_form taken k)) (sym here) (row_lawful taken k r (omega arith) (takes k any_row l) ((rows_wired w).each k any_row l))

    rows_lawful : Lawful (many no_row (row_form taken) w.count) (said w).rows
    rows_lawful = many_lawful no_row (row_form taken) w.count (said w).rows (length-map (listed w) row_said ∙ (rows_wired w).all) row_at

    outs_lawful : Lawful (many 0 (out_form w.count) w.outputs) (routed w)
    outs_lawful =
        let few = (rows_table w).few in
        many_lawful 0 (out_form w.count) w.outputs (routed w) (outs_wired w).all
        (λ o l. let on = (outs_wired w).each o l in (omega arith, (omega arith, (on, tt)), refl))

    abbrev whole : List SaidRow → List ℕ → Said
    whole rows outs = record { count = w.count; outputs = w.outputs; min = w.times.min; max = w.times.max; rows = rows; outs = outs }

    body_lawful : Lawful (body_form taken w.count w.outputs w.times.min w.times.max) (said w)
    body_lawful =
        then_lawful (λ s. s.rows) (λ rows. and_then (many 0 (out_form w.count) w.outputs) (λ s. s.outs) (λ outs. done (whole rows outs))) (many no_row (row_form taken) w.count) (said w) rows_lawful
        (then_lawful (λ s. s.outs) (λ outs. done (whole (said w).rows outs)) (many 0 (out_form w.count) w.outputs) (said w) outs_lawful refl)

    pub wiring_lawful : Lawful (sheet_form taken) (said w)
    wiring_lawful =
        let a = rows_table w in
        let b = outs_table w in
        let t = timely in
        let x = a.few in
        let y = b.few in
        let low = t.low in
        let order = t.order in
        let high = t.high in
        (omega arith, ((a.some, x), tt), (omega arith, ((b.some, y), tt), (omega arith, (omega arith, (low, tt)), (omega arith, (high, (order, tt)), body_lawful))))

    -- where its text ends
    abbrev pub after_text : List ℕ → Place
    after_text rest = record { left = pieces rest; line = length (lines_for taken w) }

    pub text_accepted : (s rest : List ℕ) → s ≡ text_for taken w ++ rest → Accepted (sheet_form taken) (said w) (start s) (after_text rest)
    text_accepted s rest e = record {
      lawful = wiring_lawful;
      left = pieces_from_text taken (said w) s rest wiring_lawful e;
      ended = cut_cons 10 rest;
      line = omega arith;
    }

    pub text_short : length (text_for taken w) ≤ most_bytes
    text_short = wide_lines (sheet_form taken) (said w) most_bytes (wide_sheet taken) wiring_lawful

use Rattle.std.proofs.Common.{map, take, sym, ap, subst}
use Rattle.std.proofs.lemmas.Result.{err_from_is_err_and}
use Rattle.sheet.specs.Form.{Accepted}
use Rattle.sheet.specs.Loads.{row_said}
use Rattle.sheet.specs.Reading.{at}
use Rattle.sheet.specs.Sheet.{sheet_form, known}
use Rattle.sheet.proofs.Heading.{sheet_accepted, rows_refused, outs_refused}
use Rattle.sheet.proofs.Wired.{filled_allowed}
use Rattle.sheet.proofs.load.read_wiring.Goals as goal

pub returns-in_err-head : goal.returns-in_err-head
returns-in_err-head c =
    let p = err_from_is_err_and c.from_residual.result c.from_residual.ensures.1 in
    rw (p.1, p.2) c.in_err-head.ensures

pub returns-in_err-rows : goal.returns-in_err-rows
returns-in_err-rows c =
    let p = err_from_is_err_and c.from_residual-in_err-rows.result c.from_residual-in_err-rows.ensures.1 in
    let h = c.in_ok-head.head in
    let t = c.in_ok-head.ensures in
    rw (p.1, p.2)
    (rows_refused known h.count h.outputs h.times.min h.times.max (at c.args.reader.now) t.after_rows t.after_outs t.after_min (at c.read_head.new.reader) t.rows t.outs t.min t.max c.in_err-rows.field-0.0 c.in_err-rows.ensures)

pub returns-in_err-outs : goal.returns-in_err-outs
returns-in_err-outs c =
    let p = err_from_is_err_and c.from_residual-in_err-outs.result c.from_residual-in_err-outs.ensures.1 in
    let h = c.in_ok-head.head in
    let t = c.in_ok-head.ensures in
    rw (p.1, p.2)
    (outs_refused known h.count h.outputs h.times.min h.times.max (at c.args.reader.now) t.after_rows t.after_outs t.after_min (at c.read_head.new.reader) t.rows t.outs t.min t.max
    (map row_said (take h.count c.in_ok-rows.rows)) (at c.read_rows.new.reader) c.in_err-outs.field-0.0 c.in_ok-rows.ensures.lines c.in_err-outs.ensures)

pub new-requires : goal.new-requires
new-requires c =
    let h = c.in_ok-head.head in
    filled_allowed h.count c.in_ok-rows.rows h.outputs c.in_ok-outs.outs c.in_ok-head.ensures.rows.keeps.0 c.in_ok-head.ensures.outs.keeps.0 c.in_ok-rows.ensures.table c.in_ok-outs.ensures.table

pub returns : goal.returns
returns c =
    let h = c.in_ok-head.head in
    let rows = map row_said (take h.count c.in_ok-rows.rows) in
    let outs = take h.outputs c.in_ok-outs.outs in
    let p = at c.args.reader.now in
    let q = at c.read_outs.new.reader in
    let m = c.new.ensures in
    let t = c.in_ok-head.ensures in
    let lines = sheet_accepted known h.count h.outputs h.times.min h.times.max p t.after_rows t.after_outs t.after_min (at c.read_head.new.reader) t.rows t.outs t.min t.max rows outs (at c.read_rows.new.reader) q c.in_ok-rows.ensures.lines c.in_ok-outs.ensures.lines in
    subst (λ z. Accepted (sheet_form known) z p q)
    (λ i. record { count = sym m.count i; outputs = sym m.outputs i; min = sym (ap (λ t. t.min) m.times) i; max = sym (ap (λ t. t.max) m.times) i; rows = map row_said (take (sym m.count i) (sym m.rows i)); outs = take (sym m.outputs i) (sym m.outs i) }) lines

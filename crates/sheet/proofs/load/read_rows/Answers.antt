use Rattle.std.proofs.Common.{◌≡◌, ◌+◌, true, ◌++◌, map, take, drop, replicate, ◌∙◌, subst, arith, length-set, length-take-le}
use Rattle.std.proofs.lemmas.List.{set-append_left}
use Rattle.std.proofs.lemmas.Result.{err_from_is_err_and}
use Rattle.sheet.specs.Limits.{most_rows}
use Rattle.sheet.specs.Loads.{row_said}
use Rattle.sheet.specs.Reading.{at}
use Rattle.sheet.specs.Sheet.{row_form, no_row, known}
use Rattle.sheet.specs.Tables.{RowsRead}
use Rattle.sheet.specs.Wired.{row_blank}
use Rattle.sheet.proofs.Many.{many_refused}
use Rattle.sheet.proofs.Tables.{filled_front, back_blank, rows_none, rows_more}
use Rattle.sheet.proofs.load.read_rows.Goals as goal

pub loop-k-init : goal.loop-k-init
loop-k-init c =
    let n = c.args.head.count in
    let b = c.blank_row-rows.result in (
      length-take-le n (replicate most_rows b) (omega arith),
      λ back long blank. rows_none c.args.reader.now _ (filled_front _ (λ r. row_blank r ≡ true) most_rows n b back (omega arith) c.blank_row-rows.ensures long blank),
    )

pub loop-k-preserved : goal.loop-k-preserved
loop-k-preserved c =
    let k = c.loop-k.k in
    let items = c.loop-k.row-items in
    let r = c.in_ok-row.field-0 in
    let full = c.loop-k.invariant.0 in (
      length-set items k r ∙ full,
      λ back long blank. subst (λ z. RowsRead (k + 1) z c.args.reader.now c.read_row.new.reader) (set-append_left items back k r (omega arith))
          (rows_more k (items ++ back) r c.args.reader.now c.loop-k.reader c.read_row.new.reader (omega arith) (c.loop-k.invariant.1 back long blank) c.in_ok-row.ensures),
    )

pub returns-in_err-row : goal.returns-in_err-row
returns-in_err-row c =
    let p = err_from_is_err_and c.from_residual.result c.from_residual.ensures.1 in
    let k = c.loop-k.k in
    let n = c.args.head.count in
    let b = c.blank_row-rows.result in
    let back = back_blank (λ r. row_blank r ≡ true) most_rows n b (omega arith) c.blank_row-rows.ensures in
    let read = c.loop-k.invariant.1 (drop n (replicate most_rows b)) back.0 back.1 in
    rw (p.1, p.2)
    (many_refused no_row (row_form known) k n (map row_said (take k (c.loop-k.row-items ++ drop n (replicate most_rows b)))) (at c.args.reader.now) (at c.loop-k.reader) c.in_err-row.field-0.0 (omega arith) read.lines c.in_err-row.ensures)

pub returns : goal.returns
returns c =
    let n = c.args.head.count in
    let b = c.blank_row-rows.result in
    let back = back_blank (λ r. row_blank r ≡ true) most_rows n b (omega arith) c.blank_row-rows.ensures in
    let all : c.loop-k.k ≡ n = omega arith in
    subst (λ z. RowsRead z (c.loop-k.row-items ++ drop n (replicate most_rows b)) c.args.reader.now c.loop-k.reader) all (c.loop-k.invariant.1 (drop n (replicate most_rows b)) back.0 back.1)

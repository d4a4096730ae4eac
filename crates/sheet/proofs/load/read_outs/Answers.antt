use Rattle.std.proofs.Common.{ℕ, ◌+◌, List, ◌++◌, ◌∙◌, take, drop, replicate, sym, refl, subst, inl, arith, length-set, length-take-le}
use Rattle.std.proofs.lemmas.List.{take-append-drop, set-append_left}
use Rattle.std.proofs.lemmas.Result.{err_from_is_err_and}
use Rattle.sheet.specs.Limits.{most_outs}
use Rattle.sheet.specs.Reading.{at}
use Rattle.sheet.specs.Sheet.{out_form}
use Rattle.sheet.specs.Tables.{OutsRead}
use Rattle.sheet.proofs.Many.{many_refused}
use Rattle.sheet.proofs.Tables.{filled_none, outs_none, outs_more}
use Rattle.sheet.proofs.load.read_outs.Goals as goal

abbrev blank : List ℕ
blank = replicate most_outs 0

pub loop-out-init : goal.loop-out-init
loop-out-init c = (
  length-take-le c.args.head.outputs blank (omega arith),
  subst (λ z. OutsRead c.args.head.count 0 z c.args.reader.now c.args.reader.now) (sym (take-append-drop c.args.head.outputs blank)) (outs_none c.args.head.count c.args.reader.now _ (filled_none _ _ most_outs 0 refl)),
)

pub loop-out-preserved : goal.loop-out-preserved
loop-out-preserved c =
    let o = c.loop-out.out-index in
    let row = c.in_ok-out.field-0 in
    let full = c.loop-out.invariant.0 in (
      length-set c.loop-out.out-items o row ∙ full,
      subst (λ z. OutsRead c.args.head.count (o + 1) z c.args.reader.now c.read_out.new.reader) (set-append_left c.loop-out.out-items (drop c.args.head.outputs blank) o row (omega arith))
          (outs_more c.args.head.count o (c.loop-out.out-items ++ drop c.args.head.outputs blank) row c.args.reader.now c.loop-out.reader c.read_out.new.reader (omega arith) c.loop-out.invariant.1 c.in_ok-out.ensures),
    )

pub returns-in_err-out : goal.returns-in_err-out
returns-in_err-out c =
    let p = err_from_is_err_and c.from_residual.result c.from_residual.ensures.1 in
    let o = c.loop-out.out-index in
    let full = c.loop-out.invariant.0 in
    rw (p.1, p.2)
    (many_refused 0 (out_form c.args.head.count) o c.args.head.outputs (take o (c.loop-out.out-items ++ drop c.args.head.outputs blank)) (at c.args.reader.now) (at c.loop-out.reader) c.in_err-out.field-0.0 (omega arith) c.loop-out.invariant.1.lines (inl c.in_err-out.ensures))

use Rattle.std.proofs.Common.{inl}
use Rattle.std.proofs.lemmas.Result.{err_from_is_err_and}
use Rattle.sheet.proofs.Forms.{past}
use Rattle.sheet.proofs.row_lines.read_head.Goals as goal

pub returns-in_err-min : goal.returns-in_err-min
returns-in_err-min c =
    let p = err_from_is_err_and c.from_residual-in_err-min.result c.from_residual-in_err-min.ensures.1 in
    rw (p.1, p.2) (past c.in_ok-count.ensures (past c.in_ok-outputs.ensures (inl c.in_err-min.ensures)))

pub returns-in_err-max : goal.returns-in_err-max
returns-in_err-max c =
    let p = err_from_is_err_and c.from_residual-in_err-max.result c.from_residual-in_err-max.ensures.1 in
    rw (p.1, p.2) (past c.in_ok-count.ensures (past c.in_ok-outputs.ensures (past c.in_ok-min.ensures (inl c.in_err-max.ensures))))

use Rattle.std.proofs.Common.{rules}
use Rattle.std.proofs.lemmas.Result.{err_from_is_err_and}
use Rattle.sheet.specs.Sheet.{time_text_due}
use Rattle.sheet.proofs.Due.{read_step}
use Rattle.sheet.proofs.text_lines.read_time.Goals as goal

pub returns-in_err-time : goal.returns-in_err-time
returns-in_err-time c =
    let p = err_from_is_err_and c.from_residual.result c.from_residual.ensures.1 in
    rw (p.1, p.2) (read_step (time_text_due c.args.key.now) c.args.reader.now c.read.new.reader c.in_err-time.ensures (λ bytes o k. search rules) (λ v k. search rules) (λ v k. search rules))

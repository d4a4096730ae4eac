use Rattle.std.proofs.Common.{rules}
use Rattle.std.specs.List.{AllByRecursion}
use Rattle.std.proofs.lemmas.Result.{err_from_is_err_and}
use Rattle.sheet.specs.Due.{not_earlier}
use Rattle.sheet.specs.Reading.{at}
use Rattle.sheet.specs.Sheet.{pins_text_due, Earlier}
use Rattle.sheet.proofs.Due.{asking_bad}
use Rattle.sheet.proofs.wiring_lines.read_pins.Goals as goal

pub returns-in_err-pins : goal.returns-in_err-pins
returns-in_err-pins c =
    let p = err_from_is_err_and c.from_residual.result c.from_residual.ensures.1 in
    rw (p.1, p.2) (asking_bad pins_text_due not_earlier (AllByRecursion (Earlier c.args.row)) (at c.args.reader.now) (search rules))

use Rattle.sheet.proofs.Verdict.{texts_are_short_lem}
use Rattle.sheet.proofs.theorems.texts_are_short.Goals as goal

pub returns : goal.returns
returns c = texts_are_short_lem

use Rattle.sheet.proofs.Verdict.{one_verdict_lem}
use Rattle.sheet.proofs.theorems.one_verdict.Goals as goal

pub returns : goal.returns
returns c = one_verdict_lem

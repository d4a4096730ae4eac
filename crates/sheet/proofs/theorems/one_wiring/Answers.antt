use Rattle.sheet.proofs.Verdict.{one_wiring_lem}
use Rattle.sheet.proofs.theorems.one_wiring.Goals as goal

pub returns : goal.returns
returns c = one_wiring_lem

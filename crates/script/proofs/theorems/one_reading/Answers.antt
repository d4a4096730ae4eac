use Rattle.script.proofs.Same.{one_reading_lem}
use Rattle.script.proofs.theorems.one_reading.Goals as goal

pub returns : goal.returns
returns c = one_reading_lem

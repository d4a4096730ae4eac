use Rattle.block.specs.Of.{meaning}
use Rattle.station.proofs.Blocks.{fixed}
use Rattle.station.proofs.theorems.histories_fix_blocks.Goals as goal

pub returns : goal.returns
returns g c = λ w. fixed (meaning g.B.Block) w

use Rattle.stacks.proofs.Depth.{stands}
use Rattle.station.proofs.Promises.{promises_kept}
use Rattle.promises.proofs.promises_hold.Goals as goal

pub returns : goal.returns
returns g c = record { histories = λ m laws w. promises_kept m laws.steps w; stacks = λ s. stands s }

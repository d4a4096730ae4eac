use Rattle.stacks.proofs.Depth.{stands}
use Rattle.stacks.proofs.stacks_are_blocks.Goals as goal

pub returns-clause-stacks : goal.returns-clause-stacks
returns-clause-stacks g c = stands

use Rattle.std.proofs.Common.{rules}
use Rattle.block.specs.Of.{meaning}
use Rattle.block.proofs.Rise.{comes_on_at_a_rise}
use Rattle.group.specs.Group.{grouped}
use Rattle.group.specs.Laws.{group_steps}
use Rattle.group.proofs.GroupBlock.comes_on.Goals as goal

pub returns : goal.returns
returns g c = comes_on_at_a_rise (grouped (meaning g.A.Block) (meaning g.B.Block)) (group_steps (meaning g.A.Block) (meaning g.B.Block) (search rules) (search rules)) c.rises.ensures

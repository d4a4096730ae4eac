use Rattle.std.proofs.Common.{rules}
use Rattle.block.specs.Of.{meaning}
use Rattle.button.proofs.Press.{button_comes_on}
use Rattle.button.proofs.ButtonBlock.comes_on.Goals as goal

pub returns : goal.returns
returns g c = button_comes_on (meaning g.B.Block) (search rules) c.rises.ensures

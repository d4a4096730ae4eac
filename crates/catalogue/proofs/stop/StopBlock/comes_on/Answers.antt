use Rattle.block.proofs.Rise.{comes_on_at_a_rise}
use Rattle.catalogue.specs.Stop.{estop}
use Rattle.catalogue.specs.Members.{stop_steps, stop_rises}
use Rattle.catalogue.proofs.stop.StopBlock.comes_on.Goals as goal

pub returns : goal.returns
returns c = comes_on_at_a_rise estop stop_steps stop_rises

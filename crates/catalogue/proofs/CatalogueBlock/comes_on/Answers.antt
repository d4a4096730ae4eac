use Rattle.block.proofs.Rise.{comes_on_at_a_rise}
use Rattle.catalogue.specs.Catalogue.{catalogue}
use Rattle.catalogue.specs.Members.{catalogue_steps, catalogue_rises}
use Rattle.catalogue.proofs.CatalogueBlock.comes_on.Goals as goal

pub returns : goal.returns
returns c = comes_on_at_a_rise catalogue catalogue_steps catalogue_rises

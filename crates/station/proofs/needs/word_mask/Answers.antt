use Rattle.station.proofs.Masks.{or_four}
use Rattle.station.proofs.needs.word_mask.Goals as goal

pub returns : goal.returns
returns c t = or_four c.mask_if.result c.mask_if-2.result c.mask_if-3.result c.mask_if-4.result t _ _ _ _ (c.mask_if.ensures t) (c.mask_if-2.ensures t) (c.mask_if-3.ensures t) (c.mask_if-4.ensures t)

use Rattle.block.specs.Of.{meaning}
use Rattle.station.specs.Masks.{masked}
use Rattle.station.proofs.Covers.{row_needs}
use Rattle.station.proofs.needs.Placed+u64.mask.Goals as goal

pub returns : goal.returns
returns g c t lt = row_needs (masked c.args.self.now.earlier.now) c.args.self.now.row.now c.pin_masks.result c.pin_masks.ensures t lt ((meaning g.B.Block).clear c.args.block.now) c.source_mask.result c.word_masks.result (c.source_mask.ensures t lt) (c.word_masks.ensures t lt)

-- The meaning of a kind of block: its ghost members as one record.
use Rattle.block.specs.declared.Block.{Ghosts}
use Rattle.block.specs.Meaning.{Meaning, meant}

abbrev pub meaning : {B : Type 0} → Ghosts B → Meaning B
meaning b = meant b.mode b.clear b.latched b.releases b.next b.made b.code b.requests

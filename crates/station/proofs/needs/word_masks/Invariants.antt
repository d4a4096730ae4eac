use Rattle.std.proofs.Common.{◌≡◌, ℕ, ◌<◌, true, ◌↔◌}
use Rattle.block.specs.Of.{meaning}
use Rattle.station.specs.Image.{bit_at}
use Rattle.station.specs.Masks.{word_number, pins_cover}
use Rattle.station.specs.Needs.{terminals}
use Rattle.station.proofs.needs.word_masks.Given as goal

abbrev pub invariant-loop-n : goal.invariant-loop-n
invariant-loop-n g l = (t : ℕ) → t < terminals → (bit_at l.all t ≡ true) ↔ ((j : ℕ) → j < l.n → (meaning g.B.Block).clear l.block (word_number j) ≡ true → pins_cover l.pins t (word_number j) ≡ true)

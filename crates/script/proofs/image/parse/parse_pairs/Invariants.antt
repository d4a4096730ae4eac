use Rattle.std.proofs.Common.{◌≡◌, ℕ, ◌+◌, ◌*◌, ◌<◌, length, get_or}
use Rattle.script.specs.Hex.{HexByte}
use Rattle.script.specs.Images.{image_bytes}
use Rattle.script.proofs.image.parse.parse_pairs.Given as goal

abbrev pub invariant-loop-high : goal.invariant-loop-high
invariant-loop-high l = (length (image_bytes l.image) ≡ l.high-index) × ((k : ℕ) → k < l.high-index → HexByte (get_or l.s (2 * k) 0) (get_or l.s (2 * k + 1) 0) (get_or (image_bytes l.image) k 0))

-- A command has two words at most after its keyword.
use Rattle.std.proofs.Common.{ℕ, ◌≤◌, List, [], ◌∷◌, length, ap, arith}
use Rattle.script.specs.declared.keywords.Keyword.{Keyword}
use Rattle.script.specs.declared.keywords.Keyword.TheVariants.{Load, Scan, Halt, Report, Needs, Blocks, Bytes}
use Rattle.script.specs.Readings.{Reading}
use Rattle.script.specs.Says.{SizeSaid, Means}

size_short : (ws : List (List ℕ)) (n : ℕ) → SizeSaid ws n → length ws ≤ 1
size_short [] n h = omega arith
size_short (w ∷ ws) n h = omega (arith, ap length h.0)

pub few_words : (k : Keyword) (ws : List (List ℕ)) (m : Reading) → Means k ws m → length ws ≤ 2
few_words Load ws m h = omega (arith, ap length h.words)
few_words Scan ws m h = omega (arith, ap length h.words)
few_words Halt ws m h = omega (arith, ap length h.0)
few_words Report ws m h = omega (arith, ap length h.words, size_short h.more h.size h.size_is)
few_words Needs ws m h = omega (arith, ap length h.number_is.words)
few_words Blocks ws m h = omega (arith, ap length h.number_is.words)
few_words Bytes ws m h = omega (arith, ap length h.number_is.words)

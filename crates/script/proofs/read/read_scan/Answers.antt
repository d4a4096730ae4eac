use Rattle.std.proofs.Common.{◌≡◌, ℕ, List, [], ◌∷◌, ap, subst}
use Rattle.script.specs.Hex.{ImageWritten}
use Rattle.script.specs.Readings.{Reading}
use Rattle.script.specs.Says.{SaysScan}
use Rattle.script.specs.Words.{arguments}
use Rattle.script.proofs.read.read_scan.Goals as goal

image_refused : (w v : List ℕ) {ws : List (List ℕ)} {m : Reading} → ws ≡ w ∷ v ∷ [] → ((bytes : List ℕ) → ImageWritten w bytes → ⊥) → SaysScan ws m → ⊥
image_refused w v p none h = let e : h.first ≡ w = cc in none h.image (subst (λ t. ImageWritten t h.image) e h.image_is)

pub returns-in_err-image : goal.returns-in_err-image
returns-in_err-image c = rw c.from_residual.ensures (λ m h. image_refused _ _ (ap arguments c.in-Two.is) c.in_err-image.ensures h)

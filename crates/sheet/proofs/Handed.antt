-- Lines, as the reader hands them out.
use Rattle.std.proofs.Common.{◌≡◌, ℕ, List, ◌∷◌, Some}
use Rattle.values.proofs.Cutting.{cut_cons}
use Rattle.sheet.specs.Lines.{pieces, due}

-- a text that follows a line has a first piece, so a line feed ends the line
pub due_first : (l r : List ℕ) → due (l ∷ pieces r) ≡ Some l
due_first l r = let h = cut_cons 10 r in rw h.2

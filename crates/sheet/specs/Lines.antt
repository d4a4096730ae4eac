-- A sheet's bytes as lines.
use Rattle.std.specs.Prelude.{◌≡◌, ℕ, ◌+◌, List, [], ◌∷◌, ◌++◌, Some, None, Option}
use Rattle.values.specs.Cut.{cut_at}

-- the pieces between line feeds; the last has none after it
abbrev pub pieces : List ℕ → List (List ℕ)
pieces s = cut_at 10 s

-- each line ends in a line feed
abbrev pub flat : List (List ℕ) → List ℕ
flat [] = []
flat (l ∷ ls) = l ++ 10 ∷ flat ls

-- how far a sheet has been read: the pieces to come, and how many lines were handed out
pub record Place : Type 0 where
  pub left : List (List ℕ)
  pub line : ℕ

abbrev pub start : List ℕ → Place
start s = record { left = pieces s; line = 0 }

-- the first piece to come, if a line feed ends it
abbrev pub due : List (List ℕ) → Option (List ℕ)
due [] = None
due (l ∷ []) = None
due (l ∷ m ∷ ls) = Some l

-- the line l is due at p, and after it the sheet is read up to q
pub record Next (l : List ℕ) (p q : Place) : Type 0 where
  pub due : due p.left ≡ Some l
  pub left : p.left ≡ l ∷ q.left
  pub line : q.line ≡ p.line + 1

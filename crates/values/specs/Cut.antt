-- A text cut at a separator, and put together again.
use Rattle.std.specs.Prelude.{◌≡◌, ℕ, List, [], ◌∷◌, ◌++◌, ◌==◌}
use Rattle.std.specs.List.{slice_split, join_with_byte}

-- the pieces between the bytes that are sep; the last has none after it
abbrev pub cut_at : ℕ → List ℕ → List (List ℕ)
cut_at sep s = slice_split (λ b. b == sep) s

-- the pieces with sep between them
abbrev pub join_at : ℕ → List (List ℕ) → List ℕ
join_at sep ls = join_with_byte sep ls

-- no byte of s is sep
abbrev pub Uncut : ℕ → List ℕ → Type 0
Uncut sep s = cut_at sep s ≡ s ∷ []

-- a stands before the first sep of s, and b after it
pub record CutOnce (sep : ℕ) (s a b : List ℕ) : Type 0 where
  pub first : cut_at sep s ≡ a ∷ cut_at sep b
  pub whole : s ≡ a ++ sep ∷ b

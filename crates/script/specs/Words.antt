-- A line as its words, parted by single spaces.
use Rattle.std.specs.Prelude.{◌≡◌, ℕ, List, [], ◌∷◌}
use Rattle.values.specs.Cut.{cut_at}
use Rattle.script.specs.declared.words.Arguments.{Arguments}
use Rattle.script.specs.declared.words.Arguments.TheVariants.{Zero, One, Two}
use Rattle.script.specs.Characters.{space}

-- a word may be empty: two spaces in a row have an empty word between them
abbrev pub Words : List ℕ → List (List ℕ) → Type 0
Words line ws = cut_at space line ≡ ws

-- the words after the keyword
abbrev pub arguments : Arguments → List (List ℕ)
arguments Zero = []
arguments (One a) = a.now ∷ []
arguments (Two a b) = a.now ∷ b.now ∷ []

-- The lines of a script, each to its LF.
use Rattle.std.specs.Prelude.{◌≡◌, ℕ, ◌≤◌, ◌⊎◌, List, [], length}
use Rattle.values.specs.Cut.{CutOnce, Uncut}
use Rattle.script.specs.Characters.{line_feed}

-- the line stands before the first LF and the rest after it; with no LF the line is all that is left
abbrev pub NextLine : List ℕ → List ℕ → List ℕ → Type 0
NextLine script line rest = CutOnce line_feed script line rest ⊎ ((1 ≤ length script) × Uncut line_feed script × (line ≡ script) × (rest ≡ []))

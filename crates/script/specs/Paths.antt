-- What may name a file.
use Rattle.std.specs.Prelude.{ℕ, ◌≤◌, List, length, ◌≢◌}
use Rattle.std.specs.List.{AllByRecursion}
use Rattle.script.specs.Characters.{line_feed, carriage_return}

-- neither LF nor CR
abbrev pub InPath : ℕ → Type 0
InPath b = (b ≢ line_feed) × (b ≢ carriage_return)

-- a path is a word, so that no space is in it
abbrev pub Path : List ℕ → Type 0
Path s = (1 ≤ length s) × AllByRecursion InPath s

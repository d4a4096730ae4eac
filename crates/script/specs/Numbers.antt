-- How a number is written: one or more decimal digits, with leading zeros or without.
use Rattle.std.specs.Prelude.{◌≡◌, ℕ, ◌+◌, ◌-◌, ◌*◌, ◌≤◌, List, [], ◌∷◌, length}
use Rattle.std.specs.List.{AllByRecursion}
use Rattle.script.specs.Characters.{digit_zero, digit_nine}

-- the byte is a digit from 0 to 9
abbrev pub Digit : ℕ → Type 0
Digit c = (digit_zero ≤ c) × (c ≤ digit_nine)

-- the number that digits make after the number n
abbrev pub value_after : ℕ → List ℕ → ℕ
value_after n [] = n
value_after n (c ∷ cs) = value_after (10 * n + (c - digit_zero)) cs

-- s writes the number n, which is at most the limit
abbrev pub NumberWritten : ℕ → List ℕ → ℕ → Type 0
NumberWritten limit s n = (1 ≤ length s) × AllByRecursion Digit s × (n ≡ value_after 0 s) × (n ≤ limit)

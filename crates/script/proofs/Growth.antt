-- The value of digits only grows.
use Rattle.std.proofs.Common.{◌≡◌, ℕ, ◌+◌, ◌-◌, ◌*◌, ◌<◌, ◌≤◌, List, [], ◌∷◌, length, get_or, drop, arith}
use Rattle.std.proofs.lemmas.List.{at_drop_more}
use Rattle.script.specs.Numbers.{NumberWritten, value_after}

pub value_grows : (n : ℕ) (cs : List ℕ) → n ≤ value_after n cs
value_grows n [] = omega arith
value_grows n (c ∷ cs) = omega (arith, value_grows (10 * n + (c - 48)) cs)

-- digits of which the first make more than the limit write no number
pub too_large : (limit n d i v : ℕ) (s : List ℕ) → i < length s → 48 + d ≡ get_or s i 0 → value_after 0 s ≡ value_after n (drop i s) → limit < 10 * n + d → NumberWritten limit s v → ⊥
too_large limit n d i v s lt digit value more w =
    let next = 10 * n + (get_or s i 0 - 48) in
    let step : value_after n (drop i s) ≡ value_after (10 * n + (get_or s i 0 - 48)) (drop (i + 1) s) = at_drop_more (value_after n) s i 0 lt in
    omega (arith, value_grows next (drop (i + 1) s))

-- The digits of a pair.
use Rattle.std.proofs.Common.{◌≡◌, ℕ, zero, suc, ◌+◌, ◌*◌, ◌<◌, List, [], get_or, drop, refl, ap, ◌∙◌, arith}
use Rattle.std.proofs.lemmas.List.{get_or-take, get_or-drop}
use Rattle.std.specs.Simd.{first_chunks}

pair_digit : (n i j m : ℕ) (s : List ℕ) → i < n → j < 2 → m ≡ 2 * i + j → get_or (get_or (first_chunks 2 n s) i []) j 0 ≡ get_or s m 0
pair_digit zero i j m s h k e = absurd (omega arith)
pair_digit (suc n) zero j m s h k e = let same : j ≡ m = omega arith in rw get_or-take (ap (λ n. get_or s n 0) same)
pair_digit (suc n) (suc i) j m s h k e =
    let same : 2 + (2 * i + j) ≡ m = omega arith in
    pair_digit n i j (2 * i + j) (drop 2 s) (omega arith) k refl ∙ get_or-drop 2 s (2 * i + j) 0 ∙ ap (λ n. get_or s n 0) same

-- the two digits of the pair i, of n
pub pair_digits : (n i : ℕ) (s : List ℕ) → i < n → (get_or (get_or (first_chunks 2 n s) i []) 0 0 ≡ get_or s (2 * i) 0) × (get_or (get_or (first_chunks 2 n s) i []) 1 0 ≡ get_or s (2 * i + 1) 0)
pair_digits n i s h = (pair_digit n i 0 (2 * i) s h (omega arith) (omega arith), pair_digit n i 1 (2 * i + 1) s h (omega arith) refl)

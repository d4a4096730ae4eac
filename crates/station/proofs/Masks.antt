-- Bits of masks.
use Rattle.std.proofs.Math.Nat.{div-eq_of_lt, two-pow-succ, zero-div}
use Rattle.std.proofs.Common.{◌≡◌, ℕ, zero, suc, ◌+◌, ◌-◌, ◌/◌, ◌%◌, ◌^◌, ◌<◌, Bool, true, false, ◌&&◌, ◌||◌, eqb, ◌⊎◌, sym, refl, ap, ◌∙◌, inl, inr, ⊎_elim, mod-eq_of_lt, arith, pow_pos, bit_and, bit_or}
use Rattle.std.proofs.lemmas.Nat.{and_shr, or_shr, and_mod, or_mod, and_mask, pow_below, shr-shr, mod_below}
use Rattle.std.proofs.lemmas.Bool.{both_ways, cases_eq, cases_lt, eq-eqb, ne_eqb}
use Rattle.station.specs.Image.{bit_at}
use Rattle.station.proofs.Bits.{low_bit, top_bit}

bit_cases : (x : ℕ) → x < 2 → (x ≡ 0) ⊎ (x ≡ 1)
bit_cases x lt = ⊎_elim (λ e. inl e) (λ ne. inr (omega arith)) (cases_eq x 0)

or_at : (x y p q : ℕ) → x ≡ p → y ≡ q → eqb (bit_or p q) 1 ≡ (eqb p 1 || eqb q 1) → eqb (bit_or x y) 1 ≡ (eqb x 1 || eqb y 1)
or_at x y p q e d h = rw (e, d) h

or_small : (x y : ℕ) → x < 2 → y < 2 → eqb (bit_or x y) 1 ≡ (eqb x 1 || eqb y 1)
or_small x y a b =
    ⊎_elim
    (λ p. ⊎_elim (λ q. or_at x y 0 0 p q refl) (λ q. or_at x y 0 1 p q refl) (bit_cases y b))
    (λ p. ⊎_elim (λ q. or_at x y 1 0 p q refl) (λ q. or_at x y 1 1 p q refl) (bit_cases y b))
    (bit_cases x a)

and_at : (x y p q : ℕ) → x ≡ p → y ≡ q → eqb (bit_and p q) 1 ≡ (eqb p 1 && eqb q 1) → eqb (bit_and x y) 1 ≡ (eqb x 1 && eqb y 1)
and_at x y p q e d h = rw (e, d) h

and_small : (x y : ℕ) → x < 2 → y < 2 → eqb (bit_and x y) 1 ≡ (eqb x 1 && eqb y 1)
and_small x y a b =
    ⊎_elim
    (λ p. ⊎_elim (λ q. and_at x y 0 0 p q refl) (λ q. and_at x y 0 1 p q refl) (bit_cases y b))
    (λ p. ⊎_elim (λ q. and_at x y 1 0 p q refl) (λ q. and_at x y 1 1 p q refl) (bit_cases y b))
    (bit_cases x a)

half_small : (x : ℕ) → x % 2 < 2
half_small x = mod_below x 2 (omega arith)

pub or_bit : (a b t : ℕ) → bit_at (bit_or a b) t ≡ (bit_at a t || bit_at b t)
or_bit a b t =
    ap (λ x. eqb (x % 2) 1) (or_shr a b t)
    ∙ ap (λ x. eqb x 1) (or_mod (a / 2 ^ t) (b / 2 ^ t) 1)
    ∙ or_small (a / 2 ^ t % 2) (b / 2 ^ t % 2) (half_small (a / 2 ^ t)) (half_small (b / 2 ^ t))

pub and_bit : (a b t : ℕ) → bit_at (bit_and a b) t ≡ (bit_at a t && bit_at b t)
and_bit a b t =
    ap (λ x. eqb (x % 2) 1) (and_shr a b t)
    ∙ ap (λ x. eqb x 1) (and_mod (a / 2 ^ t) (b / 2 ^ t) 1)
    ∙ and_small (a / 2 ^ t % 2) (b / 2 ^ t % 2) (half_small (a / 2 ^ t)) (half_small (b / 2 ^ t))

pub zero_bit : (t : ℕ) → bit_at 0 t ≡ false
zero_bit t = ap (λ x. eqb (x % 2) 1) (zero-div (2 ^ t))

-- the mask of one terminal
pub power_bit : (k t : ℕ) → bit_at (2 ^ k) t ≡ eqb k t
power_bit k t =
    let plain : 0 + 2 ^ k ≡ 2 ^ k = omega arith in
    ⊎_elim
    (λ e. ap (λ x. eqb (2 ^ x / 2 ^ t % 2) 1) e ∙ ap (λ x. eqb (x / 2 ^ t % 2) 1) (let p : 2 ^ t ≡ 0 + 2 ^ t = omega arith in p) ∙ ap (λ x. eqb x 1) (top_bit 0 t (pow_pos t)) ∙ sym (eq-eqb k t e))
    (λ ne.
    ⊎_elim
    (λ below. ap (λ x. eqb (x % 2) 1) (div-eq_of_lt (pow_below k t below)) ∙ sym (ne_eqb k t ne))
    (λ above. ap (λ x. eqb (x / 2 ^ t % 2) 1) (sym plain) ∙ ap (λ x. eqb x 1) (low_bit 0 k t (omega arith)) ∙ zero_bit t ∙ sym (ne_eqb k t ne))
    (cases_lt k t))
    (cases_eq k t)

-- every bit of the full mask is on
pub full_bit : (t : ℕ) → t < 64 → bit_at (2 ^ 64 - 1) t ≡ true
full_bit t lt =
    let on : bit_at (2 ^ t) t ≡ true = power_bit t t ∙ eq-eqb t t refl in
    sym (ap (λ x. x && bit_at (2 ^ 64 - 1) t) on)
    ∙ sym (and_bit (2 ^ t) (2 ^ 64 - 1) t)
    ∙ ap (λ x. bit_at x t) (and_mask (2 ^ t) 64 ∙ mod-eq_of_lt (pow_below t 64 lt))
    ∙ on

-- numbers below 2 ^ n with the same bits are equal
pub same_bits : (n x y : ℕ) → x < 2 ^ n → y < 2 ^ n → ((t : ℕ) → t < n → bit_at x t ≡ bit_at y t) → x ≡ y
same_bits zero x y a b same = omega arith
same_bits (suc n) x y a b same =
    let twice : 2 ^ suc n ≡ 2 ^ n + 2 ^ n = two-pow-succ n in
    let up : (z t : ℕ) → z / 2 / 2 ^ t ≡ z / 2 ^ suc t = λ z t. shr-shr z 1 t ∙ ap (λ e. z / 2 ^ e) (let p : 1 + t ≡ suc t = omega arith in p) in
    let halves : x / 2 ≡ y / 2 = same_bits n (x / 2) (y / 2) (omega (arith, twice)) (omega (arith, twice)) (λ t lt. ap (λ z. eqb (z % 2) 1) (up x t) ∙ same (suc t) (omega arith) ∙ sym (ap (λ z. eqb (z % 2) 1) (up y t))) in
    let low : eqb (x % 2) 1 ≡ eqb (y % 2) 1 = ap (λ z. eqb (z % 2) 1) (let p : x ≡ x / 2 ^ 0 = omega arith in p) ∙ same 0 (omega arith) ∙ sym (ap (λ z. eqb (z % 2) 1) (let p : y ≡ y / 2 ^ 0 = omega arith in p)) in
    ⊎_elim
    (λ p. ⊎_elim (λ q. omega arith) (λ q. absurd (both_ways (eqb (x % 2) 1) (ap (λ z. eqb z 1) p) (low ∙ ap (λ z. eqb z 1) q))) (bit_cases (y % 2) (half_small y)))
    (λ p. ⊎_elim (λ q. absurd (both_ways (eqb (y % 2) 1) (ap (λ z. eqb z 1) q) (sym low ∙ ap (λ z. eqb z 1) p))) (λ q. omega arith) (bit_cases (y % 2) (half_small y)))
    (bit_cases (x % 2) (half_small x))

pub or_four : (a b c d t : ℕ) (A B C D : Bool) → bit_at a t ≡ A → bit_at b t ≡ B → bit_at c t ≡ C → bit_at d t ≡ D → bit_at (bit_or a (bit_or b (bit_or c d))) t ≡ (A || (B || (C || D)))
or_four a b c d t A B C D p q r s =
    let x = or_bit a (bit_or b (bit_or c d)) t in
    let y = or_bit b (bit_or c d) t in
    let z = or_bit c d t in
    cc

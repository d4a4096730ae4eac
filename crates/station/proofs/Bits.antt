-- Bits of a number that is built from its lowest bit up.
use Rattle.std.proofs.Math.Nat.{add-mul-div_right, add-mul-mod_self_right, div-eq_of_lt}
use Rattle.std.proofs.Common.{◌≡◌, ℕ, ◌+◌, ◌-◌, ◌*◌, ◌/◌, ◌%◌, ◌^◌, ◌<◌, Bool, true, false, eqb, sym, ap, ◌∙◌, ⊎_elim, arith, pow_pos, pow-add}
use Rattle.std.proofs.lemmas.Bool.{cases_eq}
use Rattle.station.specs.Image.{bit_at}

-- a higher bit leaves the lower ones
pub low_bit : (x t u : ℕ) → u < t → (x + 2 ^ t) / 2 ^ u % 2 ≡ x / 2 ^ u % 2
low_bit x t u lt =
    let c = t - (u + 1) in
    let e : t ≡ (c + 1) + u = omega arith in
    let p : 2 ^ t ≡ (2 ^ c * 2) * 2 ^ u = ap (λ n. 2 ^ n) e ∙ pow-add 2 (c + 1) u ∙ ap (λ n. n * 2 ^ u) (pow-add 2 c 1) in
    ap (λ y. (x + y) / 2 ^ u % 2) p ∙ ap (λ y. y % 2) (add-mul-div_right x (2 ^ c * 2) (pow_pos u)) ∙ add-mul-mod_self_right (x / 2 ^ u) (2 ^ c) 2

pub top_bit : (x t : ℕ) → x < 2 ^ t → (x + 2 ^ t) / 2 ^ t % 2 ≡ 1
top_bit x t lt =
    let q : (x + 1 * 2 ^ t) / 2 ^ t ≡ x / 2 ^ t + 1 = add-mul-div_right x 1 (pow_pos t) in
    let z : x / 2 ^ t ≡ 0 = div-eq_of_lt lt in
    ap (λ y. (x + y) / 2 ^ t % 2) (let o : 2 ^ t ≡ 1 * 2 ^ t = omega arith in o) ∙ ap (λ y. y % 2) (q ∙ ap (λ y. y + 1) z)

-- one more bit of a number below 2 ^ t
module _ (f : ℕ → Bool) (x t : ℕ) (small : x < 2 ^ t) (inv : (u : ℕ) → u < t → bit_at x u ≡ f u) where
  pub bits_on : f t ≡ true → (u : ℕ) → u < t + 1 → bit_at (x + 2 ^ t) u ≡ f u
  bits_on on u lt =
      ⊎_elim
      (λ e. ap (λ v. bit_at (x + 2 ^ t) v) e ∙ ap (λ y. eqb y 1) (top_bit x t small) ∙ sym on ∙ ap f (sym e))
      (λ e. ap (λ y. eqb y 1) (low_bit x t u (omega arith)) ∙ inv u (omega arith))
      (cases_eq u t)

  pub bits_off : f t ≡ false → (u : ℕ) → u < t + 1 → bit_at x u ≡ f u
  bits_off off u lt =
      ⊎_elim
      (λ e. ap (bit_at x) e ∙ ap (λ y. eqb (y % 2) 1) (div-eq_of_lt small) ∙ sym off ∙ ap f (sym e))
      (λ e. inv u (omega arith))
      (cases_eq u t)

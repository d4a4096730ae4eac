-- The digits of a time.
use Rattle.std.proofs.Common.{◌≡◌, ℕ, zero, suc, ◌<◌, ◌≤◌, List, length, get_or, decimal, sym, ap, ◌∙◌, subst, arith}
use Rattle.std.specs.Str.Parse.{AllDigits, digits_value}
use Rattle.std.proofs.lemmas.Str.Parse.{IsNumeralModel, numerals_by_value, tells_digits, digit_at}
use Rattle.std.proofs.lemmas.Fmt.{decimal_nonempty, decimal_digit, decimal_is_IsNumeral, length-decimal-le, first_decimal}

pub own : IsNumeralModel (AllDigits 10) (digits_value 10)
own = numerals_by_value (AllDigits 10) tells_digits

first_digit : (n : ℕ) → n < 100000 → 1 < length (decimal n) → get_or (decimal n) 0 0 ≡ 48 → ⊥
first_digit zero h l z = omega (arith, ap length (decimal_digit 0 (omega arith)))
first_digit (suc n) h l z = omega (arith, first_decimal (suc n) (omega arith) (omega arith))

-- what the text of a time is
module _ (s : List ℕ) (n : ℕ) (h : n < 100000) (e : s ≡ decimal n) where
  pub time_some : 1 ≤ length s
  time_some = rw e (decimal_nonempty n (omega arith))

  pub time_short : length s ≤ 5
  time_short = rw e (length-decimal-le 5 n (omega arith) h (omega arith))

  pub time_digit : (i : ℕ) → i < length s → (48 ≤ get_or s i 0) × (get_or s i 0 ≤ 57)
  time_digit i l = let k = ap length e in rw e (digit_at (decimal n) i (decimal_is_IsNumeral n (omega arith)).0.1 (omega arith))

  pub time_first : 1 < length s → get_or s 0 0 ≡ 48 → ⊥
  time_first l z = first_digit n h (subst (λ t. 1 < length t) e l) (sym (ap (λ t. get_or t 0 0) e) ∙ z)

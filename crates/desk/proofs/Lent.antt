-- What a call leaves of a list that it was lent the first part of.
use Rattle.std.proofs.Common.{◌≡◌, ℕ, ◌<◌, ◌≤◌, min, List, ◌++◌, length, take, drop, sym, ap, ◌∙◌, ⊎_elim, arith, take-append-drop}
use Rattle.std.proofs.lemmas.List.{take_at, take_all, take_min, drop_all, length-take, append-nil}
use Rattle.std.proofs.lemmas.Slice.{drop-append-drop}
use Rattle.std.proofs.lemmas.Bool.{cases_lt}

-- the first b of a list that may be shorter: k of them
module _ {X : Type 0} (b k : ℕ) (xs : List X) (e : k ≡ min b (length xs)) where
  pub first_lent : take k xs ≡ take b xs
  first_lent = ap (λ (n : ℕ). take n xs) e ∙ take_min b xs

  module _ (ys : List X) (l : length ys ≡ k) where
    pub first_after : take b (ys ++ drop k xs) ≡ ys
    first_after = ⊎_elim
        (λ (h : b < length xs). take_at ys (drop k xs) b (omega arith))
        (λ (h : length xs ≤ b). ap (λ (r : List X). take b (ys ++ r)) (drop_all k xs (omega arith)) ∙ ap (take b) (append-nil ys) ∙ take_all b ys (omega arith))
        (cases_lt b (length xs))

    pub rest_after : drop b (ys ++ drop k xs) ≡ drop b xs
    rest_after = drop-append-drop k xs ys b (omega arith) l

    pub same_count : length (take b (ys ++ drop k xs)) ≡ length (take b xs)
    same_count = ap length first_after ∙ l ∙ e ∙ sym (length-take b xs)

-- a part of the right size is the station's own
pub own_part : {X : Type 0} (n k : ℕ) (xs : List X) → length (take n xs) ≡ k → take n xs ≡ take k xs
own_part n k xs e = sym (first_lent n k xs (sym e ∙ length-take n xs))

-- a list of which neither part changed
pub same_parts : {X : Type 0} (n : ℕ) (xs xs' : List X) → take n xs' ≡ take n xs → drop n xs' ≡ drop n xs → xs' ≡ xs
same_parts n xs xs' p q = sym (take-append-drop n xs') ∙ ap (λ (l : List _). l ++ drop n xs') p ∙ ap (λ (l : List _). take n xs ++ l) q ∙ take-append-drop n xs

-- A list whose first items were handed out.
use Rattle.std.proofs.Common.{◌≡◌, ℕ, ◌+◌, ◌-◌, ◌<◌, ◌≤◌, ◌⊎◌, List, ◌∷◌, length, drop, get_or, sym, ap, ◌∙◌, ⊎_elim, arith, length-drop, get_or-drop}
use Rattle.std.proofs.lemmas.List.{drop-drop}

-- the item at place n is due
module _ {X : Type 0} (xs rest : List X) (x : X) (n : ℕ) (due : drop n xs ≡ x ∷ rest) where
  pub rest_after : rest ≡ drop (n + 1) xs
  rest_after = ap (λ ys. drop 1 ys) (sym due) ∙ drop-drop 1 n xs

  pub due_item : (past : X) → x ≡ get_or xs n past
  due_item past = ap (λ ys. get_or ys 0 past) (sym due) ∙ get_or-drop n xs 0 past ∙ ap (λ i. get_or xs i past) (let z : n + 0 ≡ n = omega arith in z)

  pub due_place : n < length xs
  due_place = let long : length xs - n ≡ length (x ∷ rest) = sym (length-drop n xs) ∙ ap length due in omega arith

-- one of two lists that are handed out together is at its end
pub ended : {X Y : Type 0} (xs p : List X) (ys q : List Y) (n : ℕ) → length xs ≤ length ys → p ≡ drop n xs → q ≡ drop n ys → (length p ≡ 0) ⊎ (length q ≡ 0) → length xs ≤ n
ended xs p ys q n le d e =
    let x : length p ≡ length xs - n = ap length d ∙ length-drop n xs in
    let y : length q ≡ length ys - n = ap length e ∙ length-drop n ys in
    ⊎_elim (λ a. omega arith) (λ b. omega arith)

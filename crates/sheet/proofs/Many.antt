-- Forms numbered from 0, one after the other.
use Rattle.std.proofs.lemmas.List.{get_or_at}
use Rattle.std.proofs.Common.{◌≡◌, ℕ, zero, suc, ◌+◌, ◌-◌, ◌<◌, List, [], ◌∷◌, ◌++◌, length, get_or, take, sym, refl, ap, ◌∙◌, subst, arith, length-take-le, take_all, get_or-take, take-suc, take_at}
use Rattle.sheet.specs.declared.fault.WiringFault.{WiringFault}
use Rattle.sheet.specs.Form.{Form, done, and_then, many, Lawful, Accepted, Refuses}
use Rattle.sheet.specs.Lines.{Place}
use Rattle.sheet.proofs.Forms.{then_lawful, then_accepted, refuses_left, refuses_right}

module _ {X : Type 0} (x : X) (f : ℕ → Form X) where
  abbrev with_last : (n : ℕ) → List X → Form (List X)
  with_last n xs = and_then (f n) (λ ys. get_or ys n x) (λ y. done (xs ++ y ∷ []))

  -- one more
  pub many_more : (n : ℕ) (xs : List X) (y : X) (p q r : Place) → length xs ≡ n → Accepted (many x f n) xs p q → Accepted (f n) y q r → Accepted (many x f (suc n)) (xs ++ y ∷ []) p r
  many_more n xs y p q r e h g =
      let all = xs ++ y ∷ [] in
      let front : take n all ≡ xs = take_at xs (y ∷ []) n e in
      let last : get_or all n x ≡ y = get_or_at xs y [] x n e in
      let end : Accepted (done (xs ++ get_or all n x ∷ [])) all r r =
      record { lawful = ap (λ z. xs ++ z ∷ []) last; left = refl; ended = g.ended; line = omega arith } in
      let one : Accepted (with_last n xs) all q r =
      then_accepted (λ ys. get_or ys n x) (λ z. done (xs ++ z ∷ [])) (f n) all q r r (subst (λ z. Accepted (f n) z q r) (sym last) g) end in
      then_accepted (take n) (with_last n) (many x f n) all p q r (subst (λ z. Accepted (many x f n) z p q) (sym front) h) (subst (λ z. Accepted (with_last n z) all q r) (sym front) one)

  many_on : (more n m : ℕ) (p : Place) (g : WiringFault) → more + n ≡ m → Refuses (many x f n) p g → Refuses (many x f m) p g
  many_on zero n m p g e h = let same : n ≡ m = omega arith in subst (λ z. Refuses (many x f z) p g) same h
  many_on (suc more) n m p g e h =
      let same : suc (more + n) ≡ m = omega arith in
      subst (λ z. Refuses (many x f z) p g) same (refuses_left (take (more + n)) (with_last (more + n)) (many x f (more + n)) p g (many_on more n (more + n) p g refl h))

  -- one of them is refused
  pub many_refused : (n all : ℕ) (xs : List X) (p q : Place) (g : WiringFault) → n < all → Accepted (many x f n) xs p q → Refuses (f n) q g → Refuses (many x f all) p g
  many_refused n all xs p q g l h r =
      many_on (all - suc n) (suc n) all p g (omega arith)
      (refuses_right (take n) (with_last n) (many x f n) xs p q g h (refuses_left (λ ys. get_or ys n x) (λ z. done (xs ++ z ∷ [])) (f n) q g r))

  -- a list is lawful if each of its elements is, at its place
  pub many_lawful : (n : ℕ) (xs : List X) → length xs ≡ n → ((k : ℕ) → k < n → Lawful (f k) (get_or xs k x)) → Lawful (many x f n) xs
  many_lawful zero xs e h = go xs e
    where
      go : (ys : List X) → length ys ≡ 0 → [] ≡ ys
      go [] k = refl
      go (y ∷ ys) k = absurd (omega arith)
  many_lawful (suc n) xs e h =
      let front : length (take n xs) ≡ n = length-take-le n xs (omega arith) in
      let before = many_lawful n (take n xs) front (λ k l. subst (Lawful (f k)) (sym (get_or-take n xs k x l)) (h k (omega arith))) in
      let all : take n xs ++ get_or xs n x ∷ [] ≡ xs = sym (take-suc xs n x (omega arith)) ∙ take_all (suc n) xs (omega arith) in
      then_lawful (take n) (with_last n) (many x f n) xs before (then_lawful (λ ys. get_or ys n x) (λ z. done (take n xs ++ z ∷ [])) (f n) xs (h n (omega arith)) all)

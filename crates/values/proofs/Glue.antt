-- Cutting and joining undo each other.
use Rattle.std.proofs.Common.{◌≡◌, ℕ, Bool, true, false, not, ◌&&◌, eqb, List, [], ◌∷◌, ◌++◌, sym, refl, ap, ◌∙◌, eq-eqb, ne_eqb}
use borrow.Author.Tests.{eqb-false}
use Rattle.std.proofs.lemmas.Bool.{and_parts, not-true}
use Rattle.std.proofs.lemmas.List.Splits.{join_with_byte-slice_split}
use Rattle.values.specs.Cut.{cut_at, join_at}
use Rattle.std.specs.List.{AllByRecursion}

pub join_cut : (sep : ℕ) (s : List ℕ) → join_at sep (cut_at sep s) ≡ s
join_cut sep s = join_with_byte-slice_split sep s

-- a text that is one piece
pub alone : (sep : ℕ) (s l : List ℕ) → cut_at sep s ≡ l ∷ [] → s ≡ l
alone sep s l e = sym (join_cut sep s) ∙ ap (join_at sep) e

-- no byte is sep
abbrev pub Clear : ℕ → List ℕ → Type 0
Clear sep l = AllByRecursion (λ b. b ≡ sep → ⊥) l

pub clear_append : (sep : ℕ) (l m : List ℕ) → Clear sep l → Clear sep m → Clear sep (l ++ m)
clear_append sep [] m p q = q
clear_append sep (b ∷ l) m p q = (p.0, clear_append sep l m p.1 q)

-- for a text that is written out
abbrev pub clear_test : ℕ → List ℕ → Bool
clear_test sep [] = true
clear_test sep (b ∷ bs) = not (eqb b sep) && clear_test sep bs

pub clear_from : (sep : ℕ) (l : List ℕ) → clear_test sep l ≡ true → Clear sep l
clear_from sep [] h = tt
clear_from sep (b ∷ l) h = let p = and_parts (not (eqb b sep)) (clear_test sep l) h in (eqb-false b sep (not-true (eqb b sep) p.0), clear_from sep l p.1)

pub cut_piece : (sep : ℕ) (l s : List ℕ) → Clear sep l → cut_at sep (l ++ sep ∷ s) ≡ l ∷ cut_at sep s
cut_piece sep [] s c = let on : eqb sep sep ≡ true = eq-eqb sep sep refl in rw on
cut_piece sep (b ∷ l) s c = let off : eqb b sep ≡ false = ne_eqb b sep c.0 in let rest = cut_piece sep l s c.1 in rw (off, rest)

pub cut_join : (sep : ℕ) (l : List ℕ) (ls : List (List ℕ)) → AllByRecursion (Clear sep) (l ∷ ls) → cut_at sep (join_at sep (l ∷ ls)) ≡ l ∷ ls
cut_join sep [] [] c = refl
cut_join sep (b ∷ l) [] c = let off : eqb b sep ≡ false = ne_eqb b sep c.0.0 in let rest = cut_join sep l [] (c.0.1, tt) in rw (off, rest)
cut_join sep l (m ∷ ls) c = cut_piece sep l (join_at sep (m ∷ ls)) c.0 ∙ ap (λ z. l ∷ z) (cut_join sep m ls c.1)

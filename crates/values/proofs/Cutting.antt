-- Where a text is cut first, and what is left uncut.
use Rattle.std.proofs.Common.{◌≡◌, ◌≢◌, ℕ, ◌+◌, ◌<◌, Bool, eqb, List, [], ◌∷◌, ◌++◌, length, take, drop, refl, ap, ◌∙◌, arith, eq-eqb, ne_eqb}
use Rattle.std.specs.List.{position_or_len, HoldsAt, AllWithin}
use Rattle.std.proofs.lemmas.List.Splits.{slice_split_none, slice_split_first, length-slice_split}
use Rattle.std.proofs.lemmas.List.Sums.{position_or_len_is, split_at_first}
use Rattle.values.specs.Cut.{cut_at, CutOnce, Uncut}

module _ (sep : ℕ) (s : List ℕ) where
  abbrev is_sep : ℕ → Bool
  is_sep b = eqb b sep

  pub cut_first : (i : ℕ) → i < length s → HoldsAt (λ b. b ≡ sep) s i → AllWithin (λ b. b ≢ sep) s 0 i → CutOnce sep s (take i s) (drop (i + 1) s)
  cut_first i l on off =
      let here : position_or_len is_sep s ≡ i = position_or_len_is is_sep s i 0 (omega arith) (λ k h. ne_eqb _ sep (off k 0 (omega arith) h)) (λ h. eq-eqb _ sep (on 0)) in
      let first = slice_split_first is_sep s 0 (omega arith) in
      let whole = split_at_first is_sep s 0 (omega arith) in
      record { first = rw here at first; whole = (rw here at whole) ∙ ap (λ b. take i s ++ b ∷ drop (i + 1) s) (on 0) }

  pub cut_last : AllWithin (λ b. b ≢ sep) s 0 (length s) → Uncut sep s
  cut_last off = slice_split_none is_sep s (λ k d h. ne_eqb _ sep (off k d (omega arith) h))

cons_of : (ls : List (List ℕ)) → 0 < length ls → (m : List ℕ) × (ms : List (List ℕ)) × (ls ≡ m ∷ ms)
cons_of [] l = absurd (omega arith)
cons_of (m ∷ ms) l = (m, ms, refl)

-- a text has a first piece
pub cut_cons : (sep : ℕ) (s : List ℕ) → (m : List ℕ) × (ms : List (List ℕ)) × (cut_at sep s ≡ m ∷ ms)
cut_cons sep s = cons_of (cut_at sep s) (omega (arith, length-slice_split (λ b. eqb b sep) s))

-- The rule of needs: a row sees the earlier rows alone, so the masks of a loop keep it, and it has one list.
use Rattle.std.proofs.Common.{◌≡◌, ℕ, zero, suc, ◌+◌, ◌<◌, ◌≤◌, Bool, true, false, ◌↔◌, List, length, get_or, [], ◌∷◌, ◌++◌, sym, refl, ap, ◌∙◌, subst, inl, inr, ⊎_elim, arith, get_or-append-add}
use Rattle.std.proofs.Math.ListN.{get_or-append}
use Rattle.std.proofs.lemmas.Bool.{cases_Bool, cases_eq, ltb-true}
use Rattle.block.specs.declared.types.Word.{Word}
use Rattle.sheet.specs.declared.row.Row.{Row}
use Rattle.sheet.specs.Wired.{source_wired}
use Rattle.values.specs.declared.source.Source.{Source}
use Rattle.values.specs.declared.source.Source.TheVariants as source
use Rattle.station.specs.Image.{bit_at}
use Rattle.station.specs.Masks.{masked}
use Rattle.station.specs.Needs.{terminals, source_needs, RowNeeds, Needs, ListsNeeds}
use Rattle.station.specs.Rows.{pin, row_at}
use Rattle.station.specs.Wires.{Wired, WiredRow}
use Rattle.station.proofs.Masks.{same_bits}

module _ (f g : ℕ → ℕ → Bool) (k t : ℕ) (same : (j : ℕ) → j < k → f j t ≡ g j t) where
  source_same : (s : Source) → source_wired k s ≡ true → source_needs f t s ≡ source_needs g t s
  source_same source.Zero w = refl
  source_same source.One w = refl
  source_same (source.Terminal i) w = refl
  source_same (source.Row j) w = same j (ltb-true j k w)

  needs_local : (clear : Word → Bool) (r : Row) → WiredRow k r → RowNeeds clear f r t → RowNeeds clear g r t
  needs_local clear r w =
      ⊎_elim
      (λ act. inl (sym (source_same r.act w.act) ∙ act))
      (λ none. inr (λ v off. none v (record {
        pin0 = λ h. off.pin0 (sym (source_same (pin r 0) w.pin0) ∙ h);
        pin1 = λ h. off.pin1 (sym (source_same (pin r 1) w.pin1) ∙ h);
        pin2 = λ h. off.pin2 (sym (source_same (pin r 2) w.pin2) ∙ h);
        pin3 = λ h. off.pin3 (sym (source_same (pin r 3) w.pin3) ∙ h);
      })))

-- one turn of the loop over the rows: the mask b of the next row is added
module _ (clear : ℕ → Word → Bool) (rows : List Row) (wired : Wired rows) (xs : List ℕ) (b : ℕ) (on_sheet : length xs < length rows)
    (inv : (j t : ℕ) → j < length xs → t < terminals → (masked xs j t ≡ true) ↔ RowNeeds (clear j) (masked xs) (row_at rows j) t)
    (is : (t : ℕ) → t < terminals → (bit_at b t ≡ true) ↔ RowNeeds (clear (length xs)) (masked xs) (row_at rows (length xs)) t) where
  before : (j t : ℕ) → j < length xs → masked (xs ++ b ∷ []) j t ≡ masked xs j t
  before j t lt = ap (λ x. bit_at x t) (get_or-append xs (b ∷ []) 0 j lt)

  here : (t : ℕ) → masked (xs ++ b ∷ []) (length xs) t ≡ bit_at b t
  here t = ap (λ n. bit_at (get_or (xs ++ b ∷ []) n 0) t) (let z : length xs ≡ length xs + 0 = omega arith in z) ∙ ap (λ x. bit_at x t) (get_or-append-add xs (b ∷ []) 0 0)

  kept : (j t : ℕ) → j ≤ length xs → j < length rows → {x : Bool} → (x ≡ true) ↔ RowNeeds (clear j) (masked xs) (row_at rows j) t → masked (xs ++ b ∷ []) j t ≡ x → (masked (xs ++ b ∷ []) j t ≡ true) ↔ RowNeeds (clear j) (masked (xs ++ b ∷ [])) (row_at rows j) t
  kept j t le lt both e = (
    (λ on. needs_local (masked xs) (masked (xs ++ b ∷ [])) j t (λ i l. sym (before i t (omega arith))) (clear j) (row_at rows j) (wired j lt) (both.0 (sym e ∙ on))),
    (λ needs. e ∙ both.1 (needs_local (masked (xs ++ b ∷ [])) (masked xs) j t (λ i l. before i t (omega arith)) (clear j) (row_at rows j) (wired j lt) needs)),
  )

  pub mask_more : (j t : ℕ) → j < length xs + 1 → t < terminals → (masked (xs ++ b ∷ []) j t ≡ true) ↔ RowNeeds (clear j) (masked (xs ++ b ∷ [])) (row_at rows j) t
  mask_more j t lt small =
      ⊎_elim
      (λ e. subst (λ i. (masked (xs ++ b ∷ []) i t ≡ true) ↔ RowNeeds (clear i) (masked (xs ++ b ∷ [])) (row_at rows i) t) (sym e) (kept (length xs) t (omega arith) on_sheet (is t small) (here t)))
      (λ ne. let l : j < length xs = omega arith in kept j t (omega arith) (omega arith) (inv j t l small) (before j t l))
      (cases_eq j (length xs))

iff_same : (x y : Bool) → (x ≡ true → y ≡ true) → (y ≡ true → x ≡ true) → x ≡ y
iff_same true y to from = sym (to refl)
iff_same false y to from = ⊎_elim (λ on. from on ∙ sym on) (λ off. sym off) (cases_Bool y)

-- the rule has one solution
module _ (clear : ℕ → Word → Bool) (rows : List Row) (wired : Wired rows) (f g : ℕ → ℕ → Bool) (rf : Needs clear rows f) (rg : Needs clear rows g) where
  one_rule : (n k t : ℕ) → k < n → k < length rows → t < terminals → f k t ≡ g k t
  one_rule zero k t below lt small = absurd (omega arith)
  one_rule (suc n) k t below lt small =
      let same : (j : ℕ) → j < k → f j t ≡ g j t = λ j l. one_rule n j t (omega arith) (omega arith) small in
      iff_same (f k t) (g k t)
      (λ on. (rg k t lt small).1 (needs_local f g k t same (clear k) (row_at rows k) (wired k lt) ((rf k t lt small).0 on)))
      (λ on. (rf k t lt small).1 (needs_local g f k t (λ j l. sym (same j l)) (clear k) (row_at rows k) (wired k lt) ((rg k t lt small).0 on)))

-- a row has one needs list
pub one_list : (clear : ℕ → Word → Bool) (rows : List Row) → Wired rows → (k x y : ℕ) → k < length rows → ListsNeeds clear rows k x → ListsNeeds clear rows k y → x ≡ y
one_list clear rows wired k x y lt a b =
    same_bits 64 x y a.small b.small (λ t small. a.bits t small ∙ one_rule clear rows wired a.needs b.needs a.rule b.rule (suc k) k t (omega arith) lt small ∙ sym (b.bits t small))

-- the list of a mask that keeps the rule
pub mask_list : (clear : ℕ → Word → Bool) (rows : List Row) (masks : List ℕ) → Needs clear rows (masked masks) → (k : ℕ) → get_or masks k 0 < 18446744073709551616 → ListsNeeds clear rows k (get_or masks k 0)
mask_list clear rows masks rule k small = record { needs = masked masks; rule = rule; bits = λ t lt. refl; small = small }

-- rows whose blocks have the same clear words have the same lists
pub same_clear : (clear clear' : ℕ → Word → Bool) (rows : List Row) → ((k : ℕ) → k < length rows → (w : Word) → clear k w ≡ clear' k w) → (k n : ℕ) → ListsNeeds clear rows k n → ListsNeeds clear' rows k n
same_clear clear clear' rows same k n l = record {
  needs = l.needs;
  rule = λ j t lt small. (
    (λ on. ⊎_elim (λ act. inl act) (λ none. inr (λ w off c. none w off (same j lt w ∙ c))) ((l.rule j t lt small).0 on)),
    (λ h. (l.rule j t lt small).1 (⊎_elim (λ act. inl act) (λ none. inr (λ w off c. none w off (sym (same j lt w) ∙ c))) h)),
  );
  bits = l.bits;
  small = l.small;
}

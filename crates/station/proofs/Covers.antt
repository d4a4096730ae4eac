-- A row needs a terminal exactly if its mask has it.
use Rattle.std.proofs.Common.{◌≡◌, ℕ, ◌+◌, ◌<◌, Bool, true, false, ◌&&◌, ◌||◌, ◌↔◌, List, get_or, sym, refl, ap, ◌∙◌, inl, inr, ⊎_elim, arith, bit_or}
use Rattle.std.proofs.lemmas.Bool.{and_from, and_parts, both_ways, cases_Bool, cases_eq, or_cases, or_left, or_right}
use Rattle.block.specs.declared.types.Word.{Word}
use Rattle.sheet.specs.declared.row.Row.{Row}
use Rattle.station.specs.Image.{bit_at}
use Rattle.station.specs.Masks.{word_number, pins_cover, PinMasks}
use Rattle.station.specs.Needs.{terminals, source_needs, OffWhereNeeded, RowNeeds}
use Rattle.station.proofs.Masks.{or_bit}

-- a mask of the words below n: those that are clear cover the terminal
module _ (clear cover : ℕ → Bool) where
  abbrev pub Every : ℕ → Type 0
  Every n = (j : ℕ) → j < n → clear j ≡ true → cover j ≡ true

  pub every_clear : (n : ℕ) (a b : Bool) → (a ≡ true) ↔ Every n → clear n ≡ true → b ≡ cover n → ((a && b) ≡ true) ↔ Every (n + 1)
  every_clear n a b both here is = (
    (λ e j lt c.
        let parts = and_parts a b e in
        ⊎_elim (λ same. ap cover same ∙ sym is ∙ parts.1) (λ apart. both.0 parts.0 j (omega arith) c) (cases_eq j n)),
    (λ all. and_from a b (both.1 (λ j lt c. all j (omega arith) c)) (is ∙ all n (omega arith) here)),
  )

  pub every_other : (n : ℕ) (a : Bool) → (a ≡ true) ↔ Every n → clear n ≡ false → (a ≡ true) ↔ Every (n + 1)
  every_other n a both here = (
    (λ e j lt c. ⊎_elim (λ same. absurd (both_ways (clear n) here (ap clear (sym same) ∙ c))) (λ apart. both.0 e j (omega arith) c) (cases_eq j n)),
    (λ all. both.1 (λ j lt c. all j (omega arith) c)),
  )

every_word : (a b c d : Bool) → (n : ℕ) × (n < 16) × (word_number n ≡ record { pin0 = a; pin1 = b; pin2 = c; pin3 = d })
every_word true true true true = (15, omega arith, refl)
every_word true true true false = (7, omega arith, refl)
every_word true true false true = (11, omega arith, refl)
every_word true true false false = (3, omega arith, refl)
every_word true false true true = (13, omega arith, refl)
every_word true false true false = (5, omega arith, refl)
every_word true false false true = (9, omega arith, refl)
every_word true false false false = (1, omega arith, refl)
every_word false true true true = (14, omega arith, refl)
every_word false true true false = (6, omega arith, refl)
every_word false true false true = (10, omega arith, refl)
every_word false true false false = (2, omega arith, refl)
every_word false false true true = (12, omega arith, refl)
every_word false false true false = (4, omega arith, refl)
every_word false false false true = (8, omega arith, refl)
every_word false false false false = (0, omega arith, refl)

-- four pins that are on or off, and whether each needs the terminal
covered : (a b c d p q r s : Bool) → ((a && p) || ((b && q) || ((c && r) || (d && s)))) ≡ true → (p ≡ true → a ≡ false) → (q ≡ true → b ≡ false) → (r ≡ true → c ≡ false) → (s ≡ true → d ≡ false) → ⊥
covered a b c d p q r s e ha hb hc hd =
    let not_both : (x y : Bool) → (x && y) ≡ true → (y ≡ true → x ≡ false) → ⊥ = λ x y both off. let parts = and_parts x y both in both_ways x (off parts.1) parts.0 in
    ⊎_elim (λ u. not_both a p u ha)
    (λ v. ⊎_elim (λ u. not_both b q u hb)
    (λ x. ⊎_elim (λ u. not_both c r u hc) (λ u. not_both d s u hd) (or_cases (c && r) (d && s) x))
    (or_cases (b && q) ((c && r) || (d && s)) v))
    (or_cases (a && p) ((b && q) || ((c && r) || (d && s))) e)

uncovered : (x y : Bool) → (x && y) ≡ false → y ≡ true → x ≡ false
uncovered true y e h = absurd (both_ways y e h)
uncovered false y e h = refl

or_off : (x y : Bool) → (x || y) ≡ false → (x ≡ false) × (y ≡ false)
or_off true y e = absurd (both_ways true e refl)
or_off false y e = (refl, e)

module _ (needs : ℕ → ℕ → Bool) (r : Row) (pins : List ℕ) (masks : PinMasks needs r pins) (t : ℕ) (lt : t < terminals) where
  cover_needs : (w : Word) → pins_cover pins t w ≡ true → OffWhereNeeded needs t r w → ⊥
  cover_needs w e off =
      covered w.pin0 w.pin1 w.pin2 w.pin3 _ _ _ _ e
      (λ h. off.pin0 (sym (masks.pin0 t lt) ∙ h)) (λ h. off.pin1 (sym (masks.pin1 t lt) ∙ h)) (λ h. off.pin2 (sym (masks.pin2 t lt) ∙ h)) (λ h. off.pin3 (sym (masks.pin3 t lt) ∙ h))

  cover_off : (w : Word) → pins_cover pins t w ≡ false → OffWhereNeeded needs t r w
  cover_off w e =
      let a = or_off (w.pin0 && bit_at (get_or pins 0 0) t) _ e in
      let b = or_off (w.pin1 && bit_at (get_or pins 1 0) t) _ a.1 in
      let c = or_off (w.pin2 && bit_at (get_or pins 2 0) t) _ b.1 in
      record {
        pin0 = λ h. uncovered w.pin0 _ a.0 (masks.pin0 t lt ∙ h);
        pin1 = λ h. uncovered w.pin1 _ b.0 (masks.pin1 t lt ∙ h);
        pin2 = λ h. uncovered w.pin2 _ c.0 (masks.pin2 t lt ∙ h);
        pin3 = λ h. uncovered w.pin3 _ c.1 (masks.pin3 t lt ∙ h);
      }

  pub row_needs : (clear : Word → Bool) (a b : ℕ) → bit_at a t ≡ source_needs needs t r.act → (bit_at b t ≡ true) ↔ Every (λ n. clear (word_number n)) (λ n. pins_cover pins t (word_number n)) 16
      → (bit_at (bit_or a b) t ≡ true) ↔ RowNeeds clear needs r t
  row_needs clear a b act words = (
    (λ e.
        ⊎_elim
        (λ on. inl (sym act ∙ on))
        (λ on. inr (λ w off c.
        let n = every_word w.pin0 w.pin1 w.pin2 w.pin3 in
        let cover = words.0 on n.0 n.1 (ap clear n.2 ∙ c) in
        cover_needs w (sym (ap (pins_cover pins t) n.2) ∙ cover) off))
        (or_cases (bit_at a t) (bit_at b t) (sym (or_bit a b t) ∙ e))),
    (λ h.
        or_bit a b t
        ∙ ⊎_elim
        (λ on. or_left (bit_at a t) (bit_at b t) (act ∙ on))
        (λ none. or_right (bit_at a t) (bit_at b t) (words.1 (λ n l c. ⊎_elim (λ on. on) (λ off. absurd (none (word_number n) (cover_off (word_number n) off) c)) (cases_Bool (pins_cover pins t (word_number n))))))
        h),
  )

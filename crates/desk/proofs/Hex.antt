-- Capital hexadecimal digits, as a format writes them.
use Rattle.std.proofs.Common.{◌≡◌, ℕ, zero, suc, ◌+◌, ◌-◌, ◌/◌, ◌%◌, ◌^◌, ◌<◌, ◌≤◌, eqb, true, false, List, [], ◌∷◌, ◌++◌, length, replicate, Some, sym, refl, ap, ◌∙◌, subst, ⊎_elim, append_assoc, arith}
use Rattle.std.proofs.Math.Nat.{pow-suc}
use Rattle.std.proofs.lemmas.List.{append-nil, replicate-append-replicate}
use Rattle.std.proofs.lemmas.Bool.{cases_lt, ne_eqb}
use Rattle.std.specs.Fmt.{digit_glyph, digits, digits_onto, digits_output, padded_integral, char_count, format_spec, styled_digits_output}
use Rattle.desk.specs.Answers.{hex_text}

hex_zeros : (k : ℕ) → hex_text k 0 ≡ replicate k 48
unfolding hex_text
hex_zeros zero = refl
hex_zeros (suc k) = let more : k + 1 ≡ suc k = omega arith in ap (λ (l : List ℕ). l ++ 48 ∷ []) (hex_zeros k) ∙ replicate-append-replicate k 1 48 ∙ ap (λ (m : ℕ). replicate m 48) more

abbrev padded_to : ℕ → List ℕ → List ℕ
padded_to width ds = replicate (width - length ds) 48 ++ ds

-- the first digit that is not 0, or the last
one_digit : (k j n : ℕ) (acc : List ℕ) → n < 16 → padded_to (suc k + length acc) (digits_onto (suc j) 16 true n acc) ≡ hex_text (suc k) n ++ acc
unfolding hex_text
one_digit k j n acc small =
    let e : n / 16 ≡ 0 = omega arith in
    let zeros : suc k + length acc - suc (length acc) ≡ k = omega arith in
    rw (e, hex_zeros k, zeros) (sym (append_assoc (replicate k 48) (digit_glyph true (n % 16) ∷ []) acc))

zeros_before : (k j n : ℕ) (acc : List ℕ) → k < j → n < 16 ^ suc k → padded_to (suc k + length acc) (digits_onto j 16 true n acc) ≡ hex_text (suc k) n ++ acc
unfolding hex_text
zeros_before k zero n acc room fits = absurd (omega arith)
zeros_before zero (suc j) n acc room fits = one_digit zero j n acc fits
zeros_before (suc k) (suc j) n acc room fits = ⊎_elim
    (λ (small : n < 16). one_digit (suc k) j n acc small)
    (λ (large : 16 ≤ n).
    let e : eqb (n / 16) 0 ≡ false = ne_eqb (n / 16) 0 (λ z. omega arith) in
    let g = digit_glyph true (n % 16) in
    let long : suc (suc k) + length acc ≡ suc k + suc (length acc) = omega arith in
    rw (e, long) (zeros_before k j (n / 16) (g ∷ acc) (omega arith) (omega (arith, pow-suc 16 (suc k))) ∙ sym (append_assoc (hex_text (suc k) (n / 16)) (g ∷ []) acc)))
    (cases_lt n 16)

digits_are : (n : ℕ) → digits_onto 64 16 true n [] ≡ digits 16 true n
unfolding digits
digits_are n = refl

padded_are : (k : ℕ) (ds h : List ℕ) → padded_to (suc k + 0) ds ≡ h ++ [] → padded_integral (format_spec 32 0 4 (suc k) (2 ^ 64 - 1)) false [] ds ≡ h
unfolding padded_integral char_count
padded_are k ds h e = let zeros : suc k + 0 - length ds ≡ suc k - length ds - 0 - 0 = omega arith in rw append-nil (ap (λ (z : ℕ). replicate z 48 ++ ds) (sym zeros) ∙ e ∙ append-nil h)

-- what `{:016X}` and `{:02X}` write
pub padded_hex : (k n : ℕ) → k < 64 → n < 16 ^ suc k → padded_integral (format_spec 32 0 4 (suc k) (2 ^ 64 - 1)) false [] (digits 16 true n) ≡ hex_text (suc k) n
padded_hex k n room fits = padded_are k _ _ (subst (λ (ds : List ℕ). padded_to (suc k + 0) ds ≡ hex_text (suc k) n ++ []) (digits_are n) (zeros_before k 64 n [] room fits))

-- what such a hole writes
pub hex_hole : (k n : ℕ) (d : _) (s : _) → s ≡ format_spec 32 0 4 (suc k) (2 ^ 64 - 1) → digits_output d ≡ Some (digits 16 true n) → k < 64 → n < 16 ^ suc k → styled_digits_output d s ≡ Some (hex_text (suc k) n)
hex_hole k n d s e f room fits = rw (e, f) (ap Some (padded_hex k n room fits))

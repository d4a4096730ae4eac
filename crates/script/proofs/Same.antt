-- A line says one thing.
use Rattle.std.proofs.Common.{◌≡◌, ℕ, cond, eqb, List, [], ◌∷◌, length, get_or, sym, refl, ap, ◌∙◌, subst, inl, inr, arith}
use Rattle.std.proofs.lemmas.List.{ext_get_or}
use Rattle.values.specs.Cut.{join_at}
use Rattle.values.proofs.Glue.{join_cut}
use Rattle.script.specs.declared.keywords.Keyword.{Keyword}
use Rattle.script.specs.declared.keywords.Keyword.TheVariants.{Load, Scan, Halt, Report, Needs, Blocks, Bytes}
use Rattle.script.specs.Hex.{HexDigit, HexByte, ImageWritten}
use Rattle.script.specs.Keywords.{keyword_text}
use Rattle.script.specs.Numbers.{NumberWritten}
use Rattle.script.specs.Readings.{Reading}
use Rattle.script.specs.Says.{SizeSaid, SaysNumber, Means, PassedOver, Commands}
use Rattle.script.specs.Theorems.{OneReading}

-- the keyword by its letters
abbrev by_letters : List ℕ → Keyword
by_letters w =
    let a = get_or w 0 0 in
    cond (eqb a 108) Load (cond (eqb a 115) Scan (cond (eqb a 104) Halt (cond (eqb a 114) Report (cond (eqb a 110) Needs (cond (eqb (get_or w 1 0) 108) Blocks Bytes)))))

by_text : (k : Keyword) → by_letters (keyword_text k) ≡ k
by_text Load = refl
by_text Scan = refl
by_text Halt = refl
by_text Report = refl
by_text Needs = refl
by_text Blocks = refl
by_text Bytes = refl

keyword_same : (k l : Keyword) → keyword_text k ≡ keyword_text l → k ≡ l
keyword_same k l e = sym (by_text k) ∙ ap by_letters e ∙ by_text l

digit_same : (c d e : ℕ) → HexDigit c d → HexDigit c e → d ≡ e
digit_same c d e p q = grind arith

byte_same : (high low a b : ℕ) → HexByte high low a → HexByte high low b → a ≡ b
byte_same high low a b p q =
    let tens = digit_same high p.tens q.tens p.high_is q.high_is in
    let ones = digit_same low p.ones q.ones p.low_is q.low_is in
    omega arith

image_same : (s a b : List ℕ) → ImageWritten s a → ImageWritten s b → a ≡ b
image_same s a b (inl p) (inl q) = cc
image_same s a b (inl p) (inr q) = let one = ap length p.0 in absurd (omega arith)
image_same s a b (inr p) (inl q) = let one = ap length q.0 in absurd (omega arith)
image_same s a b (inr p) (inr q) = ext_get_or 0 a b (omega arith) (λ k h. byte_same _ _ _ _ (p.each k h) (q.each k (omega arith)))

number_same : (limit : ℕ) (s t : List ℕ) (m n : ℕ) → s ≡ t → NumberWritten limit s m → NumberWritten limit t n → m ≡ n
number_same limit s t m n e p q = cc

size_same : (ws vs : List (List ℕ)) (m n : ℕ) → ws ≡ vs → SizeSaid ws m → SizeSaid vs n → m ≡ n
size_same [] [] m n e p q = cc
size_same [] (v ∷ vs) m n e p q = let z : ◌≡◌ {A = ℕ} 0 1 = cc in absurd (omega arith)
size_same (w ∷ ws) [] m n e p q = let z : ◌≡◌ {A = ℕ} 0 1 = cc in absurd (omega arith)
size_same (w ∷ ws) (v ∷ vs) m n e p q = cc

says_same : (limit : ℕ) (made : ℕ → Reading) (ws : List (List ℕ)) (m n : Reading) → SaysNumber limit made ws m → SaysNumber limit made ws n → m ≡ n
says_same limit made ws m n p q = let e : p.number ≡ q.number = number_same limit p.number_is.word q.number_is.word _ _ (cc) p.number_is.written q.number_is.written in cc

means_same : (k : Keyword) (ws : List (List ℕ)) (m n : Reading) → Means k ws m → Means k ws n → m ≡ n
means_same Load ws m n p q = cc
means_same Scan ws m n p q =
    let w : p.first ≡ q.first = cc in
    let i = image_same q.first p.image q.image (subst (λ t. ImageWritten t p.image) w p.image_is) q.image_is in
    let t = number_same _ p.second q.second p.elapsed q.elapsed (cc) p.elapsed_is q.elapsed_is in
    cc
means_same Halt ws m n p q = cc
means_same Report ws m n p q =
    let r = number_same _ p.first q.first p.row q.row (cc) p.row_is q.row_is in
    let s = size_same p.more q.more p.size q.size (cc) p.size_is q.size_is in
    cc
means_same Needs ws m n p q = says_same _ _ ws m n p q
means_same Blocks ws m n p q = says_same _ _ ws m n p q
means_same Bytes ws m n p q = says_same _ _ ws m n p q

begins : (b : ℕ) (w : List ℕ) (ws : List (List ℕ)) → PassedOver (join_at 32 ((b ∷ w) ∷ ws)) → b ≡ 35
begins b w [] h = h
begins b w (v ∷ ws) h = h

not_over : (k : Keyword) (ws : List (List ℕ)) → PassedOver (join_at 32 (keyword_text k ∷ ws)) → ⊥
not_over Load ws h = omega (arith, begins _ _ ws h)
not_over Scan ws h = omega (arith, begins _ _ ws h)
not_over Halt ws h = omega (arith, begins _ _ ws h)
not_over Report ws h = omega (arith, begins _ _ ws h)
not_over Needs ws h = omega (arith, begins _ _ ws h)
not_over Blocks ws h = omega (arith, begins _ _ ws h)
not_over Bytes ws h = omega (arith, begins _ _ ws h)

-- a line that is passed over is no command's
command_over : (line : List ℕ) (m : Reading) → PassedOver line → Commands line m → ⊥
command_over line m p h = not_over h.keyword h.after (subst PassedOver (sym (join_cut 32 line) ∙ ap (join_at 32) h.words) p)

pub one_reading_lem : OneReading
one_reading_lem line m n (inl p) (inl q) = cc
one_reading_lem line m n (inl p) (inr q) = absurd (command_over line n p.0 q)
one_reading_lem line m n (inr p) (inl q) = absurd (command_over line m q.0 p)
one_reading_lem line m n (inr p) (inr q) =
    let text : keyword_text p.keyword ≡ keyword_text q.keyword = cc in
    let after : p.after ≡ q.after = cc in
    let k = keyword_same p.keyword q.keyword text in
    means_same q.keyword q.after m n (subst (λ l. Means l q.after m) k (subst (λ ws. Means p.keyword ws m) after p.means)) q.means

-- How long the lines of a sheet can be.
use Rattle.std.proofs.Common.{◌≡◌, ℕ, zero, suc, ◌+◌, ◌*◌, ◌<◌, ◌≤◌, Bool, true, false, List, [], ◌∷◌, ◌++◌, length, get_or, take, Some, None, decimal, Option, subst, mul-le-mul_right, suc-mul, arith, length-append}
use Rattle.std.proofs.lemmas.Fmt.{length-decimal-le}
use Rattle.block.specs.declared.types.Kind.{Kind}
use Rattle.block.specs.declared.types.Kind.TheVariants.{And, Or, Estop}
use Rattle.values.specs.declared.source.Source.{Source}
use Rattle.values.specs.declared.source.Source.TheVariants.{Zero, One, Terminal, Row}
use Rattle.values.specs.Written.{source_text, pins_text, reset_text, kind_word, flag_text}
use Rattle.sheet.specs.Due.{written, Keeps}
use Rattle.sheet.specs.Form.{Form, done, line, and_then, many, lines_of, Lawful}
use Rattle.sheet.specs.Limits.{most_bytes}
use Rattle.sheet.specs.Lines.{flat}
use Rattle.sheet.specs.Sheet.{row_form, out_form, no_row, body_form, sheet_form}

-- the lines of what a form takes have at most n bytes, with their line feeds
abbrev Wide : {A : Type 0} → Form A → ℕ → Type 0
Wide (done a) n = Unit {0}
Wide (line {V} d of next) n = (v : V) → d.plain v → Keeps d.asks v → (rest : ℕ) × (length (written d v) + 1 + rest ≤ n) × Wide (next v) rest

wide_more : {A : Type 0} (f : Form A) (n m : ℕ) → n ≤ m → Wide f n → Wide f m
wide_more (done a) n m l w = tt
wide_more (line d of next) n m l w = λ v p k. let h = w v p k in let b = h.1 in (h.0, omega arith, h.2)

wide_then : {A B : Type 0} (f : Form A) (part : B → A) (next : A → Form B) (n m : ℕ) → Wide f n → ((a : A) → Wide (next a) m) → Wide (and_then f part next) (n + m)
wide_then (done a) part next n m w h = wide_more (next a) m (n + m) (omega arith) (h a)
wide_then (line d of more) part next n m w h = λ v p k. let g = w v p k in let b = g.1 in (g.0 + m, omega arith, wide_then (more v) part next g.0 m g.2 h)

wide_many : {X : Type 0} (x : X) (f : ℕ → Form X) (w : ℕ) → ((k : ℕ) → Wide (f k) w) → (n : ℕ) → Wide (many x f n) (n * w)
wide_many x f w h zero = tt
wide_many x f w h (suc n) =
    let all : n * w + (w + 0) ≡ suc n * w = let e = suc-mul n w in omega arith in
    subst (Wide (many x f (suc n))) all
    (wide_then (many x f n) (take n) (λ xs. and_then (f n) (λ ys. get_or ys n x) (λ y. done (xs ++ y ∷ []))) (n * w) (w + 0) (wide_many x f w h n)
    (λ xs. wide_then (f n) (λ ys. get_or ys n x) (λ y. done (xs ++ y ∷ [])) w 0 (h n) (λ y. tt)))

pub wide_lines : {A : Type 0} (f : Form A) (a : A) (n : ℕ) → Wide f n → Lawful f a → length (flat (lines_of f a)) ≤ n
wide_lines (done b) a n w h = omega arith
wide_lines (line d of next) a n w h =
    let g = w (of a) h.0 h.1 in
    let b = g.1 in
    let rest = wide_lines (next (of a)) a g.0 g.2 h.2 in
    let l = length-append (written d (of a)) (10 ∷ flat (lines_of (next (of a)) a)) in
    omega arith

wide_source : (s : Source) → length (source_text s) ≤ 3
wide_source Zero = omega arith
wide_source One = omega arith
wide_source (Terminal n) = omega arith
wide_source (Row n) = omega arith

wide_pins : (ps : List Source) → length ps ≡ 4 → length (pins_text ps) ≤ 15
wide_pins [] e = absurd (omega arith)
wide_pins (a ∷ []) e = absurd (omega arith)
wide_pins (a ∷ b ∷ []) e = absurd (omega arith)
wide_pins (a ∷ b ∷ c ∷ []) e = absurd (omega arith)
wide_pins (a ∷ b ∷ c ∷ d ∷ []) e =
    let wa = wide_source a in let wb = wide_source b in let wc = wide_source c in let wd = wide_source d in
    simp length-append (omega arith)
wide_pins (a ∷ b ∷ c ∷ d ∷ f ∷ ps) e = absurd (omega arith)

wide_kind : (k : Kind) → length (kind_word k) ≤ 5
wide_kind And = omega arith
wide_kind Or = omega arith
wide_kind Estop = omega arith

wide_flag : (b : Bool) → length (flag_text b) ≤ 1
wide_flag true = omega arith
wide_flag false = omega arith

wide_reset : (r : Option ℕ) → length (reset_text r) ≤ 3
wide_reset None = omega arith
wide_reset (Some n) = omega arith

wide_row : (taken : Kind → Bool) (k : ℕ) → Wide (row_form taken k) 65
wide_row taken k =
    λ kind p1 k1. (
      54,
      let w = wide_kind kind in omega arith,
      λ act p2 k2. (
        46,
        let w = wide_source act in omega arith,
        λ pins p3 k3. (
          25,
          let w = wide_pins pins p3.0 in omega arith,
          λ reset p4 k4. (
            15,
            let w = wide_reset reset in omega arith,
            λ start p5 k5. (
              7,
              let w = wide_flag start in simp length-append (omega arith),
              λ auto p6 k6. (0, let w = wide_flag auto in simp length-append (omega arith), tt),
            ),
          ),
        ),
      ),
    )

wide_out : (count o : ℕ) → Wide (out_form count o) 8
wide_out count o = λ row p k. (0, omega arith, tt)

wide_time : (n : ℕ) → n < 100000 → length (decimal n) ≤ 5
wide_time n h = length-decimal-le 5 n (omega arith) h (omega arith)

pub wide_sheet : (taken : Kind → Bool) → Wide (sheet_form taken) most_bytes
wide_sheet taken =
    λ count p1 k1. (
      4088,
      omega arith,
      λ outputs p2 k2. (
        4080,
        omega arith,
        λ min p3 k3. (
          4070,
          let w = wide_time min p3 in omega arith,
          λ max p4 k4. (
            4060,
            let w = wide_time max p4 in omega arith,
            let rows = mul-le-mul_right 65 k1.0.1 in
                let outs = mul-le-mul_right 8 k2.0.1 in
                wide_more (body_form taken count outputs min max) (count * 65 + (outputs * 8 + 0)) 4060 (omega arith)
                (wide_then (many no_row (row_form taken) count) (λ s. s.rows) (λ rs. and_then (many 0 (out_form count) outputs) (λ s. s.outs) (λ os. done (record { count = count; outputs = outputs; min = min; max = max; rows = rs; outs = os }))) (count * 65) (outputs * 8 + 0)
                (wide_many no_row (row_form taken) 65 (wide_row taken) count)
                (λ rs. wide_then (many 0 (out_form count) outputs) (λ s. s.outs) (λ os. done (record { count = count; outputs = outputs; min = min; max = max; rows = rs; outs = os })) (outputs * 8) 0 (wide_many 0 (out_form count) 8 (wide_out count) outputs) (λ os. tt))),
          ),
        ),
      ),
    )

-- A text writes one value.
use Rattle.std.proofs.Common.{◌≡◌, ℕ, ◌+◌, ◌/◌, ◌%◌, Bool, true, false, List, ◌∷◌, Some, None, Option, refl, ap, arith}
use Rattle.block.specs.declared.types.Kind.{Kind}
use Rattle.block.specs.declared.types.Kind.TheVariants.{And, Or, Estop}
use Rattle.values.specs.declared.source.Source.{Source}
use Rattle.values.specs.declared.source.Source.TheVariants.{Zero, One, Terminal, Row}
use Rattle.values.specs.Written.{two, source_text, pins_text, reset_text, kind_word, flag_text, FourShort}
use Rattle.values.proofs.Pins.{pins_cut}

pub two_same : (m n : ℕ) → two m ≡ two n → m ≡ n
two_same m n e =
    let p : 48 + m / 10 ≡ 48 + n / 10 = cc in
    let q : 48 + m % 10 ≡ 48 + n % 10 = cc in
    omega arith

apart : {a b : ℕ} {s t : List ℕ} → (a ≡ b → ⊥) → a ∷ s ≡ b ∷ t → ⊥
apart {a} {b} h e = let p : a ≡ b = cc in h p

pub source_same : (v w : Source) → source_text v ≡ source_text w → v ≡ w
source_same Zero Zero e = refl
source_same Zero One e = absurd (apart (λ h. omega arith) e)
source_same Zero (Terminal n) e = absurd (apart (λ h. omega arith) e)
source_same Zero (Row n) e = absurd (apart (λ h. omega arith) e)
source_same One Zero e = absurd (apart (λ h. omega arith) e)
source_same One One e = refl
source_same One (Terminal n) e = absurd (apart (λ h. omega arith) e)
source_same One (Row n) e = absurd (apart (λ h. omega arith) e)
source_same (Terminal m) Zero e = absurd (apart (λ h. omega arith) e)
source_same (Terminal m) One e = absurd (apart (λ h. omega arith) e)
source_same (Terminal m) (Terminal n) e = let t : two m ≡ two n = cc in ap Terminal (two_same m n t)
source_same (Terminal m) (Row n) e = absurd (apart (λ h. omega arith) e)
source_same (Row m) Zero e = absurd (apart (λ h. omega arith) e)
source_same (Row m) One e = absurd (apart (λ h. omega arith) e)
source_same (Row m) (Terminal n) e = absurd (apart (λ h. omega arith) e)
source_same (Row m) (Row n) e = let t : two m ≡ two n = cc in ap Row (two_same m n t)

pub flag_same : (v w : Bool) → flag_text v ≡ flag_text w → v ≡ w
flag_same true true e = refl
flag_same true false e = absurd (apart (λ h. omega arith) e)
flag_same false true e = absurd (apart (λ h. omega arith) e)
flag_same false false e = refl

pub reset_same : (v w : Option ℕ) → reset_text v ≡ reset_text w → v ≡ w
reset_same None None e = refl
reset_same None (Some n) e = absurd (apart (λ h. omega arith) e)
reset_same (Some m) None e = absurd (apart (λ h. omega arith) e)
reset_same (Some m) (Some n) e = let t : two m ≡ two n = cc in ap Some (two_same m n t)

pub pins_same : (v w : List Source) → FourShort v → FourShort w → pins_text v ≡ pins_text w → v ≡ w
pins_same v w p q e =
    let f = pins_cut (pins_text v) v p refl in
    let g = pins_cut (pins_text v) w q e in
    let a = source_same f.a g.a (cc) in
    let b = source_same f.b g.b (cc) in
    let c = source_same f.c g.c (cc) in
    let d = source_same f.d g.d (cc) in
    cc

pub kind_same : (v w : Kind) → kind_word v ≡ kind_word w → v ≡ w
kind_same Estop Estop e = refl
kind_same Estop And e = absurd (apart (λ h. omega arith) e)
kind_same Estop Or e = absurd (apart (λ h. omega arith) e)
kind_same And Estop e = absurd (apart (λ h. omega arith) e)
kind_same And And e = refl
kind_same And Or e = absurd (apart (λ h. omega arith) e)
kind_same Or Estop e = absurd (apart (λ h. omega arith) e)
kind_same Or And e = absurd (apart (λ h. omega arith) e)
kind_same Or Or e = refl

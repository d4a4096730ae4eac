-- A form: lines that are due one after the other, where a line may depend on the values before it.
use Rattle.std.specs.Prelude.{◌≡◌, ℕ, zero, suc, ◌+◌, ◌⊎◌, List, [], ◌∷◌, ◌++◌, length, take, slice_index_or}
use Rattle.sheet.specs.declared.fault.WiringFault.{WiringFault}
use Rattle.sheet.specs.Due.{Due, written, Keeps, Bad, Took}
use Rattle.sheet.specs.Lines.{Place}

-- A form of an A: each line has its place in the A; the lines after it may depend on its value.
pub data Form (A : Type 0) : Type 1 where
  done : A → Form A
  line : {V : Type 0} → Due V → (A → V) → (V → Form A) → Form A

-- the form of a part of B, and then what follows it
abbrev pub and_then : {A B : Type 0} → Form A → (B → A) → (A → Form B) → Form B
and_then (done a) part next = next a
and_then (line d of more) part next = line d (λ b. of (part b)) (λ v. and_then (more v) part next)

-- n forms one after the other, numbered from 0; past the end of a list stands x
abbrev pub many : {X : Type 0} → X → (ℕ → Form X) → ℕ → Form (List X)
many x f zero = done []
many x f (suc n) = and_then (many x f n) (take n) (λ xs. and_then (f n) (λ ys. slice_index_or ys n x) (λ y. done (xs ++ y ∷ [])))

-- the lines that write a
abbrev pub lines_of : {A : Type 0} → Form A → A → List (List ℕ)
lines_of (done b) a = []
lines_of (line d of next) a = written d (of a) ∷ lines_of (next (of a)) a

-- a keeps every rule of the form
abbrev pub Lawful : {A : Type 0} → Form A → A → Type 0
Lawful (done b) a = b ≡ a
Lawful (line d of next) a = d.plain (of a) × Keeps d.asks (of a) × Lawful (next (of a)) a

-- what holds of every due line of a form
abbrev pub Every : {A : Type 0} → ((V : Type 0) → Due V → Type 0) → Form A → Type 0
Every P (done a) = Unit {0}
Every P (line {V} d of next) = P V d × ((v : V) → Every P (next v))

-- some piece is to come
abbrev pub SomeLeft : List (List ℕ) → Type 0
SomeLeft ls = (l : List ℕ) × (ms : List (List ℕ)) × (ls ≡ l ∷ ms)

-- from p to q stand the lines of a, which keeps every rule
pub record Accepted {A : Type 0} (f : Form A) (a : A) (p q : Place) : Type 0 where
  pub lawful : Lawful f a
  pub left : p.left ≡ lines_of f a ++ q.left
  pub ended : SomeLeft q.left
  pub line : q.line ≡ p.line + length (lines_of f a)

-- of the lines that are due from p on, the first bad one has the fault g
abbrev pub Refuses : {A : Type 0} → Form A → Place → WiringFault → Type 0
Refuses (done b) p g = ⊥
Refuses (line {V} d of next) p g = Bad d p g ⊎ ((v : V) × (q : Place) × Took d v p q × Refuses (next v) q g)

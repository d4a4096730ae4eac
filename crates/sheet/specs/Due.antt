-- A due line: how its value is written, what is asked of it, and when it is bad.
use Rattle.std.specs.Prelude.{◌≡◌, ℕ, ◌+◌, ◌⊎◌, List, [], ◌∷◌, ◌++◌, Some, Option}
use Rattle.sheet.specs.declared.fault.TextFault.TheVariants.{Malformed, Limit}
use Rattle.sheet.specs.declared.fault.RowFault.TheVariants.{Text, NotAllowed, BadTimes}
use Rattle.sheet.specs.declared.fault.WiringFault.{WiringFault}
use Rattle.sheet.specs.declared.fault.WiringFault.TheVariants.{Row, NotEarlier, NotOnSheet}
use Rattle.sheet.specs.Lines.{Place, due, Next}

-- what a due line can break
pub data Rule : Type 0 where
  malformed : Rule
  outside : Rule
  not_earlier : Rule
  off_sheet : Rule
  not_allowed : Rule
  bad_times : Rule

-- the fault of a rule that is broken in line n
abbrev pub fault_at : Rule → ℕ → WiringFault
fault_at malformed n = Row (Text (Malformed n))
fault_at outside n = Row (Text (Limit n))
fault_at not_earlier n = NotEarlier n
fault_at off_sheet n = NotOnSheet n
fault_at not_allowed n = Row (NotAllowed n)
fault_at bad_times n = Row (BadTimes n)

-- a rule, and what it asks of a line's value
pub record Asked (V : Type 0) : Type 1 where
  pub rule : Rule
  pub holds : V → Type 0

-- A due line: its key, how a value is written after it, the values that can be, and what is asked of them, in the order of the rules.
pub record Due (V : Type 0) : Type 1 where
  pub key : List ℕ
  pub body : V → List ℕ
  pub plain : V → Type 0
  pub asks : List (Asked V)

abbrev pub asked : {V : Type 0} → Rule → (V → Type 0) → Asked V
asked q P = record { rule = q; holds = P }

-- the same line with one rule more, after the others
abbrev pub asking : {V : Type 0} → Due V → Rule → (V → Type 0) → Due V
asking d q P = record { key = d.key; body = d.body; plain = d.plain; asks = d.asks ++ asked q P ∷ [] }

abbrev pub written : {V : Type 0} → Due V → V → List ℕ
written d v = d.key ++ d.body v

-- the line l reads as v
abbrev pub Reads : {V : Type 0} → Due V → Option (List ℕ) → V → Type 0
Reads d l v = (l ≡ Some (written d v)) × d.plain v

-- all that is asked
abbrev pub Keeps : {V : Type 0} → List (Asked V) → V → Type 0
Keeps [] v = Unit {0}
Keeps (a ∷ more) v = a.holds v × Keeps more v

-- the first rule that v breaks is q
abbrev pub FirstBroken : {V : Type 0} → List (Asked V) → V → Rule → Type 0
FirstBroken [] v q = ⊥
FirstBroken (a ∷ more) v q = ((a.holds v → ⊥) × (q ≡ a.rule)) ⊎ (a.holds v × FirstBroken more v q)

-- the line l is bad: it reads as no value, or the value that it reads as breaks a rule, of which q is the first
abbrev pub Faulty : {V : Type 0} → Due V → Option (List ℕ) → Rule → Type 0
Faulty {V} d l q = (((v : V) → Reads d l v → ⊥) × (q ≡ malformed)) ⊎ ((v : V) × Reads d l v × FirstBroken d.asks v q)

-- the line that is due at p is bad, and f is its fault
pub record Bad {V : Type 0} (d : Due V) (p : Place) (f : WiringFault) : Type 0 where
  pub rule : Rule
  pub faulty : Faulty d (due p.left) rule
  pub fault : f ≡ fault_at rule (p.line + 1)

-- the line that is due at p is good, and reads as v
pub record Took {V : Type 0} (d : Due V) (v : V) (p q : Place) : Type 0 where
  pub plain : d.plain v
  pub keeps : Keeps d.asks v
  pub next : Next (written d v) p q

-- What a reader answers.
use Rattle.std.specs.Prelude.{Some, None, Option}

-- what is found means a value that has the property; where nothing is found, no value has it
abbrev pub Found : {R V : Type 0} → (R → V) → (V → Type 0) → Option R → Type 0
Found means P (Some r) = P (means r)
Found {V = V} means P None = (v : V) → P v → ⊥

-- the same, where what is found is the value
abbrev pub FoundValue : {V : Type 0} → (V → Type 0) → Option V → Type 0
FoundValue P r = Found (λ v. v) P r

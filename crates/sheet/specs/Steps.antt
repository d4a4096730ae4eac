-- What reading one due line answers, by the layer of its fault.
use Rattle.std.specs.Prelude.{◌≡◌, ℕ, ◌+◌, ◌<◌, ◌≤◌, Bool, true, false, List, length, Some, None, Option, Ok, Err, Result}
use Rattle.sheet.specs.declared.fault.RowFault.{RowFault}
use Rattle.sheet.specs.declared.fault.RowFault.TheVariants.{Text}
use Rattle.sheet.specs.declared.fault.TextFault.{TextFault}
use Rattle.sheet.specs.declared.fault.TextFault.TheVariants.{TooLong, Malformed, Limit, Trailing}
use Rattle.sheet.specs.declared.fault.WiringFault.{WiringFault}
use Rattle.sheet.specs.declared.fault.WiringFault.TheVariants.{Row}
use Rattle.sheet.specs.declared.reader.Reader.{Reader}
use Rattle.sheet.specs.Due.{Due, Bad, Took}
use Rattle.sheet.specs.Limits.{most_bytes}
use Rattle.sheet.specs.Lines.{Place}
use Rattle.sheet.specs.Reading.{at, Ended, HandsValue, NoValue}

-- What reading the value of the line that is due answers, by what `parse` makes of the bytes after the key, and `test` of that.
pub data ReadBy {V : Type 0} (parse : List ℕ → Option V → Type 0) (test : V → Bool → Type 0) (key : List ℕ) (p q : Place) (r : Result V TextFault) : Type 0 where
  no_line : (f : TextFault) → NoValue key p f → r ≡ Err f → ReadBy parse test key p q r
  unparsed : (bytes : List ℕ) (n : ℕ) → HandsValue key bytes n p q → parse bytes None → r ≡ Err (Malformed n) → ReadBy parse test key p q r
  turned_down : (bytes : List ℕ) (n : ℕ) (v : V) → HandsValue key bytes n p q → parse bytes (Some v) → test v false → r ≡ Err (Limit n) → ReadBy parse test key p q r
  taken : (bytes : List ℕ) (n : ℕ) (v : V) → HandsValue key bytes n p q → parse bytes (Some v) → test v true → r ≡ Ok v → ReadBy parse test key p q r

-- the line d is read as v from a to b, or it is bad, and its fault is what `up` makes of f
abbrev pub Step : {V F : Type 0} → (F → WiringFault) → Due V → Reader → Reader → Result V F → Type 0
Step up d a b (Ok v) = Took d v (at a) (at b)
Step up d a b (Err f) = Bad d (at a) (up f)

abbrev pub TextStep : {V : Type 0} → Due V → Reader → Reader → Result V TextFault → Type 0
TextStep d a b r = Step (λ f. Row (Text f)) d a b r

abbrev pub RowStep : {V : Type 0} → Due V → Reader → Reader → Result V RowFault → Type 0
RowStep d a b r = Step Row d a b r

abbrev pub WiringStep : {V : Type 0} → Due V → Reader → Reader → Result V WiringFault → Type 0
WiringStep d a b r = Step (λ f. f) d a b r

-- s is not too long, or the fault says so
abbrev pub LengthChecked : {U : Type 0} → List ℕ → Result U TextFault → Type 0
LengthChecked s (Ok u) = length s ≤ most_bytes
LengthChecked s (Err f) = (most_bytes < length s) × (f ≡ TooLong)

-- no byte is left, or the fault says in which line the rest begins
abbrev pub EndChecked : {U : Type 0} → Reader → Result U TextFault → Type 0
EndChecked r (Ok u) = Ended r
EndChecked r (Err f) = (Ended r → ⊥) × (f ≡ Trailing ((at r).line + 1))

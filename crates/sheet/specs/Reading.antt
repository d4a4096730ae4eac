-- What the reader hands out.
use Rattle.std.specs.Prelude.{◌≡◌, ℕ, ◌+◌, List, ◌++◌, length, Some, None, ◌≢◌}
use Rattle.sheet.specs.declared.fault.TextFault.{TextFault}
use Rattle.sheet.specs.declared.fault.TextFault.TheVariants.{Malformed}
use Rattle.sheet.specs.declared.reader.Reader.{Reader}
use Rattle.sheet.specs.Lines.{Place, pieces, due, Next}

-- how far the reader is
abbrev pub at : Reader → Place
at r = record { left = pieces r.rest.now; line = r.line }

-- no byte is left
abbrev pub Ended : Reader → Type 0
Ended r = length r.rest.now ≡ 0

-- the due line, with its number
pub record HandsLine (bytes : List ℕ) (number : ℕ) (p q : Place) : Type 0 where
  pub next : Next bytes p q
  pub numbered : number ≡ q.line

-- no line is due, and the fault has the number that it would have had
pub record NoLine (p : Place) (f : TextFault) : Type 0 where
  pub none : due p.left ≡ None
  pub fault : f ≡ Malformed (p.line + 1)

-- what follows the key in the due line, with the line's number
abbrev pub HandsValue : List ℕ → List ℕ → ℕ → Place → Place → Type 0
HandsValue key bytes number p q = HandsLine (key ++ bytes) number p q

-- no line that begins with the key is due
pub record NoValue (key : List ℕ) (p : Place) (f : TextFault) : Type 0 where
  pub none : (v : List ℕ) → due p.left ≢ Some (key ++ v)
  pub fault : f ≡ Malformed (p.line + 1)

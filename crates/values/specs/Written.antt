-- How the values of a sheet are written, and which values can be.
use Rattle.std.specs.Prelude.{◌≡◌, ℕ, ◌+◌, ◌/◌, ◌%◌, ◌<◌, Bool, true, false, List, [], ◌∷◌, map, length, Some, None, codes, Option}
use Rattle.std.specs.List.{AllByRecursion}
use Rattle.block.specs.declared.types.Kind.{Kind}
use Rattle.block.specs.declared.types.Kind.TheVariants.{And, Or, Estop}
use Rattle.values.specs.declared.source.Source.{Source}
use Rattle.values.specs.declared.source.Source.TheVariants.{Zero, One, Terminal, Row}
use Rattle.values.specs.Cut.{join_at}

abbrev pub Any : {V : Type 0} → V → Type 0
Any v = Unit {0}

abbrev pub OneDigit : ℕ → Type 0
OneDigit n = n < 10

abbrev pub digit : ℕ → ℕ
digit n = 48 + n

abbrev pub TwoDigits : ℕ → Type 0
TwoDigits n = n < 100

abbrev pub two : ℕ → List ℕ
two n = digit (n / 10) ∷ digit (n % 10) ∷ []

-- a time is written as std writes a number, with no zero before another digit
abbrev pub FiveDigits : ℕ → Type 0
FiveDigits n = n < 100000

-- the number in a source has two digits
abbrev pub Short : Source → Type 0
Short Zero = Unit {0}
Short One = Unit {0}
Short (Terminal n) = TwoDigits n
Short (Row n) = TwoDigits n

abbrev pub terminal_text : ℕ → List ℕ
terminal_text n = 105 ∷ two n

abbrev pub row_text : ℕ → List ℕ
row_text n = 114 ∷ two n

abbrev pub source_text : Source → List ℕ
source_text Zero = codes "0"
source_text One = codes "1"
source_text (Terminal n) = terminal_text n
source_text (Row n) = row_text n

-- the pins of a row: four sources
abbrev pub FourShort : List Source → Type 0
FourShort ps = (length ps ≡ 4) × AllByRecursion Short ps

-- with commas between them
abbrev pub pins_text : List Source → List ℕ
pins_text ps = join_at 44 (map source_text ps)

abbrev pub ShortReset : Option ℕ → Type 0
ShortReset None = Unit {0}
ShortReset (Some n) = TwoDigits n

abbrev pub reset_text : Option ℕ → List ℕ
reset_text None = codes "-"
reset_text (Some n) = terminal_text n

-- the words of `kind=`
abbrev pub kind_word : Kind → List ℕ
kind_word Estop = codes "estop"
kind_word And = codes "and"
kind_word Or = codes "or"

abbrev pub flag_text : Bool → List ℕ
flag_text false = codes "0"
flag_text true = codes "1"

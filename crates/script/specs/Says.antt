-- What each line of a script says.
use Rattle.std.specs.Prelude.{◌≡◌, ℕ, ◌⊎◌, List, [], ◌∷◌}
use Rattle.script.specs.declared.keywords.Keyword.{Keyword}
use Rattle.script.specs.declared.keywords.Keyword.TheVariants.{Load, Scan, Halt, Report, Needs, Blocks, Bytes}
use Rattle.script.specs.Characters.{number_sign}
use Rattle.script.specs.Hex.{ImageWritten}
use Rattle.script.specs.Keywords.{keyword_text}
use Rattle.script.specs.Limits.{blocks_limit, bytes_limit, size_limit, size_unsaid, number_limit}
use Rattle.script.specs.Numbers.{NumberWritten}
use Rattle.script.specs.Paths.{Path}
use Rattle.script.specs.Readings.{Reading, nothing, load, scan, halt, report, needs, blocks, bytes}
use Rattle.script.specs.Words.{Words}

-- the words are one, which writes the number n
pub record OneNumber (limit : ℕ) (ws : List (List ℕ)) (n : ℕ) : Type 0 where
  pub word : List ℕ
  pub words : ws ≡ word ∷ []
  pub written : NumberWritten limit word n

-- the size that the words after a report's row give
abbrev pub SizeSaid : List (List ℕ) → ℕ → Type 0
SizeSaid [] n = n ≡ size_unsaid
SizeSaid (w ∷ ws) n = (ws ≡ []) × NumberWritten size_limit w n

pub record SaysLoad (ws : List (List ℕ)) (m : Reading) : Type 0 where
  pub path : List ℕ
  pub words : ws ≡ path ∷ []
  pub names : Path path
  pub is : m ≡ load path

pub record SaysScan (ws : List (List ℕ)) (m : Reading) : Type 0 where
  pub first : List ℕ
  pub second : List ℕ
  pub image : List ℕ
  pub elapsed : ℕ
  pub words : ws ≡ first ∷ second ∷ []
  pub image_is : ImageWritten first image
  pub elapsed_is : NumberWritten number_limit second elapsed
  pub is : m ≡ scan image elapsed

pub record SaysReport (ws : List (List ℕ)) (m : Reading) : Type 0 where
  pub first : List ℕ
  pub more : List (List ℕ)
  pub row : ℕ
  pub size : ℕ
  pub words : ws ≡ first ∷ more
  pub row_is : NumberWritten number_limit first row
  pub size_is : SizeSaid more size
  pub is : m ≡ report row size

-- the words are one, a number that the reading is made of
pub record SaysNumber (limit : ℕ) (made : ℕ → Reading) (ws : List (List ℕ)) (m : Reading) : Type 0 where
  pub number : ℕ
  pub number_is : OneNumber limit ws number
  pub is : m ≡ made number

-- the words ws after a keyword say m
abbrev pub Means : Keyword → List (List ℕ) → Reading → Type 0
Means Load ws m = SaysLoad ws m
Means Scan ws m = SaysScan ws m
Means Halt ws m = (ws ≡ []) × (m ≡ halt)
Means Report ws m = SaysReport ws m
Means Needs ws m = SaysNumber number_limit needs ws m
Means Blocks ws m = SaysNumber blocks_limit blocks ws m
Means Bytes ws m = SaysNumber bytes_limit bytes ws m

-- an empty line, or one that begins with `#`
abbrev pub PassedOver : List ℕ → Type 0
PassedOver [] = Unit {0}
PassedOver (b ∷ bs) = b ≡ number_sign

-- a command's line is its keyword and the words after it
pub record Commands (line : List ℕ) (m : Reading) : Type 0 where
  pub keyword : Keyword
  pub after : List (List ℕ)
  pub words : Words line (keyword_text keyword ∷ after)
  pub means : Means keyword after m

abbrev pub Says : List ℕ → Reading → Type 0
Says line m = (PassedOver line × (m ≡ nothing)) ⊎ Commands line m

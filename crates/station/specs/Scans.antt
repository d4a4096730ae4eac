-- What a scan and a halt do to the blocks of the rows. A table is seen as a function of the row number.
use Rattle.std.specs.Prelude.{◌≡◌, ℕ, ◌<◌, ◌≤◌, Bool, List, length, slice_index_or}
use Rattle.block.specs.Meaning.{Meaning}
use Rattle.block.specs.Modes.{is_on}
use Rattle.sheet.specs.declared.row.Row.{Row}
use Rattle.station.specs.Rows.{input_of, halt_input, row_at, blank_setup}

-- the block of row k in a table
abbrev pub at : {B : Type 0} → Meaning B → List B → ℕ → B
at m t k = slice_index_or t k (m.made blank_setup)

-- which rows are on
abbrev pub on_in : {B : Type 0} → Meaning B → (ℕ → B) → ℕ → Bool
on_in m f j = is_on (m.mode (f j))

-- a scan steps row k: from f to g, at the step that the images and the rows as they are in this scan give
abbrev pub StepsRow : {B : Type 0} → Meaning B → List Row → (image last : List ℕ) (elapsed : ℕ) → (f g : ℕ → B) → ℕ → Type 0
StepsRow m rows image last elapsed f g k = g k ≡ m.next (f k) (input_of image last elapsed (on_in m g) (row_at rows k))

-- a halt idles row k
abbrev pub IdlesRow : {B : Type 0} → Meaning B → (f g : ℕ → B) → ℕ → Type 0
IdlesRow m f g k = g k ≡ m.next (f k) halt_input

-- a call keeps block k
abbrev pub KeepsBlock : {B : Type 0} → (f g : ℕ → B) → ℕ → Type 0
KeepsBlock f g k = g k ≡ f k

-- what holds of each row, and that the blocks past the rows are kept
pub record EachRow {B : Type 0} (rows : List Row) (f g : ℕ → B) (P : ℕ → Type 0) : Type 0 where
  pub row : (k : ℕ) → k < length rows → P k
  pub rest : (k : ℕ) → length rows ≤ k → KeepsBlock f g k

abbrev pub Scanned : {B : Type 0} → Meaning B → List Row → (image last : List ℕ) (elapsed : ℕ) → (f g : ℕ → B) → Type 0
Scanned m rows image last elapsed f g = EachRow rows f g (StepsRow m rows image last elapsed f g)

abbrev pub Halted : {B : Type 0} → Meaning B → List Row → (f g : ℕ → B) → Type 0
Halted m rows f g = EachRow rows f g (IdlesRow m f g)

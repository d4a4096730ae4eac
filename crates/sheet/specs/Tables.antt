-- What reading rows and outputs answers, and what their tables keep meanwhile.
use Rattle.std.specs.Prelude.{◌≡◌, ℕ, ◌<◌, ◌≤◌, true, List, map, codes, length, take, Ok, Err, Result, slice_index_or}
use Rattle.sheet.specs.declared.fault.RowFault.{RowFault}
use Rattle.sheet.specs.declared.fault.WiringFault.{WiringFault}
use Rattle.sheet.specs.declared.fault.WiringFault.TheVariants as fault
use Rattle.sheet.specs.declared.reader.Reader.{Reader}
use Rattle.sheet.specs.declared.row.Row.{Row}
use Rattle.sheet.specs.declared.head.Head.{Head}
use Rattle.sheet.specs.declared.wiring.Wiring.{Wiring}
use Rattle.sheet.specs.Due.{Took}
use Rattle.sheet.specs.Form.{Form, many, Accepted, Refuses}
use Rattle.sheet.specs.Limits.{most_rows, most_outs, least_time}
use Rattle.sheet.specs.Lines.{Place}
use Rattle.sheet.specs.Loads.{row_said, said}
use Rattle.sheet.specs.Reading.{at}
use Rattle.sheet.specs.Sheet.{count_due, time_due, row_form, out_form, no_row, sheet_form, known}
use Rattle.sheet.specs.Wired.{row_wired, row_blank}

-- what reading the lines of a form from a answers: what was read, or the fault of the first bad line, which is what `up` makes of f
abbrev pub Answer : {A T F : Type 0} → (F → WiringFault) → Form A → Reader → (T → Type 0) → Result T F → Type 0
Answer up form a Read (Ok x) = Read x
Answer up form a Read (Err f) = Refuses form (at a) (up f)

-- the lines before the rows were read as h
pub record HeadRead (h : Head) (p q : Place) : Type 0 where
  pub after_rows : Place
  pub after_outs : Place
  pub after_min : Place
  pub rows : Took (count_due (codes "rows=") most_rows) h.count p after_rows
  pub outs : Took (count_due (codes "outs=") most_outs) h.outputs after_rows after_outs
  pub min : Took (time_due (codes "min=") least_time) h.times.min after_outs after_min
  pub max : Took (time_due (codes "max=") h.times.min) h.times.max after_min q

abbrev pub HeadAnswer : Reader → Reader → Result Head RowFault → Type 0
HeadAnswer a b r = Answer fault.Row (sheet_form known) a (λ h. HeadRead h (at a) (at b)) r

-- the lines of row k were read as r
pub record RowRead (k : ℕ) (r : Row) (a b : Reader) : Type 0 where
  pub lines : Accepted (row_form known k) (row_said r) (at a) (at b)
  pub wired : row_wired k r ≡ true

abbrev pub RowAnswer : ℕ → Reader → Reader → Result Row WiringFault → Type 0
RowAnswer k a b r = Answer (λ f. f) (row_form known k) a (λ row. RowRead k row a b) r

-- a table of so many places: the first n are good, each at its place, and the rest are blank
pub record Filled {X : Type 0} (Good : ℕ → X → Type 0) (Blank : X → Type 0) (most n : ℕ) (xs : List X) : Type 0 where
  pub full : length xs ≡ most
  pub good : (k : ℕ) (past : X) → k < n → Good k (slice_index_or xs k past)
  pub blank : (k : ℕ) (past : X) → n ≤ k → k < most → Blank (slice_index_or xs k past)

abbrev pub FilledRows : ℕ → List Row → Type 0
FilledRows n rows = Filled (λ k r. row_wired k r ≡ true) (λ r. row_blank r ≡ true) most_rows n rows

abbrev pub FilledOuts : ℕ → ℕ → List ℕ → Type 0
FilledOuts count n outs = Filled (λ o row. row < count) (λ row. row ≡ 0) most_outs n outs

-- the lines of n rows were read into the table
pub record RowsRead (n : ℕ) (rows : List Row) (a b : Reader) : Type 0 where
  pub lines : Accepted (many no_row (row_form known) n) (map row_said (take n rows)) (at a) (at b)
  pub table : FilledRows n rows

abbrev pub RowsAnswer : ℕ → Reader → Reader → Result (List Row) WiringFault → Type 0
RowsAnswer n a b r = Answer (λ f. f) (many no_row (row_form known) n) a (λ rows. RowsRead n rows a b) r

-- the lines of n outputs were read into the table
pub record OutsRead (count n : ℕ) (outs : List ℕ) (a b : Reader) : Type 0 where
  pub lines : Accepted (many 0 (out_form count) n) (take n outs) (at a) (at b)
  pub table : FilledOuts count n outs

abbrev pub OutsAnswer : ℕ → ℕ → Reader → Reader → Result (List ℕ) WiringFault → Type 0
OutsAnswer count n a b r = Answer (λ f. f) (many 0 (out_form count) n) a (λ outs. OutsRead count n outs a b) r

-- the lines of the sheet of a wiring were read as it
abbrev pub WiringAnswer : Reader → Reader → Result Wiring WiringFault → Type 0
WiringAnswer a b r = Answer (λ f. f) (sheet_form known) a (λ w. Accepted (sheet_form known) (said w) (at a) (at b)) r

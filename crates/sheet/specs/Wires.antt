-- A wiring's rows and outputs, without the blank rest of its tables.
use Rattle.std.specs.Prelude.{◌≡◌, ℕ, ◌<◌, true, List, length, take, slice_index, slice_index_or}
use Rattle.sheet.specs.declared.row.Row.{Row}
use Rattle.sheet.specs.declared.head.Head.{Head}
use Rattle.sheet.specs.declared.wiring.Wiring.{Wiring}
use Rattle.sheet.specs.Wired.{row_wired}

-- the rows on the sheet
abbrev pub listed : Wiring → List Row
listed w = take w.count w.rows

-- the rows of its outputs
abbrev pub routed : Wiring → List ℕ
routed w = take w.outputs w.outs

-- w is made of these
pub record MadeOf (h : Head) (rs : List Row) (os : List ℕ) (w : Wiring) : Type 0 where
  pub times : w.times ≡ h.times
  pub count : w.count ≡ h.count
  pub rows : w.rows ≡ rs
  pub outputs : w.outputs ≡ h.outputs
  pub outs : w.outs ≡ os

-- `count` rows, the sources of each of which are constants, terminals and earlier rows
pub record RowsWired (count : ℕ) (rows : List Row) : Type 0 where
  pub all : length rows ≡ count
  pub each : (k : ℕ) (past : Row) → k < count → row_wired k (slice_index_or rows k past) ≡ true

-- so many outputs, each of which is that of a row on the sheet
pub record OutsWired (count outputs : ℕ) (outs : List ℕ) : Type 0 where
  pub all : length outs ≡ outputs
  pub each : (o : ℕ) → o < outputs → slice_index outs o < count

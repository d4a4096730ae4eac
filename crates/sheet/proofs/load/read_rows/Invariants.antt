use Rattle.std.proofs.Common.{◌≡◌, ℕ, ◌-◌, ◌<◌, true, List, ◌++◌, length, get_or}
use Rattle.sheet.specs.declared.row.Row.{Row}
use Rattle.sheet.specs.Limits.{most_rows}
use Rattle.sheet.specs.Tables.{RowsRead}
use Rattle.sheet.specs.Wired.{row_blank}
use Rattle.sheet.proofs.load.read_rows.Given as goal

-- the rows of the sheet, and whatever blank rest of the table
abbrev pub invariant-loop-k : goal.invariant-loop-k
invariant-loop-k l =
    (length l.row-items ≡ l.fn.head.count)
    × ((back : List Row) → length back ≡ most_rows - l.fn.head.count → ((j : ℕ) (past : Row) → j < length back → row_blank (get_or back j past) ≡ true) → RowsRead l.k (l.row-items ++ back) l.initial.reader l.reader)

use Rattle.std.proofs.Common.{◌≡◌, ◌++◌, length, drop, replicate}
use Rattle.sheet.specs.Limits.{most_outs}
use Rattle.sheet.specs.Tables.{OutsRead}
use Rattle.sheet.proofs.load.read_outs.Given as goal

-- the outputs of the sheet, and then the blank rest of the table
abbrev pub invariant-loop-out : goal.invariant-loop-out
invariant-loop-out l = (length l.out-items ≡ l.head.outputs) × OutsRead l.head.count l.out-index (l.out-items ++ drop l.head.outputs (replicate most_outs 0)) l.initial.reader l.reader

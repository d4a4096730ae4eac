use Rattle.std.proofs.Common.{◌≡◌, ℕ, ◌<◌, ◌≤◌}
use Rattle.block.specs.Of.{meaning}
use Rattle.sheet.specs.Wires.{listed}
use Rattle.station.specs.Rows.{setup_of, row_at}
use Rattle.station.specs.Scans.{at, KeepsBlock}
use Rattle.station.proofs.rows.fill_rows.Given as goal

abbrev pub invariant-loop-k : goal.invariant-loop-k
invariant-loop-k g l =
    let m = meaning g.B.Block in
    ((j : ℕ) → j < l.k → at m l.table j ≡ m.made (setup_of l.wiring.times (row_at (listed l.wiring) j))) × ((j : ℕ) → l.k ≤ j → KeepsBlock (at m l.initial.table) (at m l.table) j)

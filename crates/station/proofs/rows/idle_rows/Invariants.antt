use Rattle.std.proofs.Common.{ℕ, ◌<◌, ◌≤◌}
use Rattle.block.specs.Of.{meaning}
use Rattle.station.specs.Scans.{at, IdlesRow, KeepsBlock}
use Rattle.station.proofs.rows.idle_rows.Given as goal

abbrev pub invariant-loop-block : goal.invariant-loop-block
invariant-loop-block g l =
    let m = meaning g.B.Block in
    ((j : ℕ) → j < l.block-index → IdlesRow m (at m l.initial.listed) (at m l.listed) j) × ((j : ℕ) → l.block-index ≤ j → KeepsBlock (at m l.initial.listed) (at m l.listed) j)

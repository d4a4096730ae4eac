use Rattle.std.proofs.Common.{◌≡◌, ℕ, ◌+◌, ◌^◌, ◌<◌}
use Rattle.block.specs.Of.{meaning}
use Rattle.station.specs.Image.{bit_at}
use Rattle.station.specs.Outputs.{output_on}
use Rattle.station.specs.Scans.{at, on_in}
use Rattle.station.proofs.outputs.Outputs.byte.Given as goal

abbrev pub invariant-loop-j : goal.invariant-loop-j
invariant-loop-j g l =
    let m = meaning g.B.Block in
    (l.byte < 2 ^ l.j) × ((u : ℕ) → u < l.j → bit_at l.byte u ≡ output_on l.self.outs.now (on_in m (at m l.self.table.now)) (l.base + u))

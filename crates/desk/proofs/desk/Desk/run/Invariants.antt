use Rattle.std.proofs.Common.{◌+◌, ◌-◌, ◌≤◌, length, take, vec_items, vec_len, vec_capacity}
use Rattle.block.specs.Of.{meaning}
use Rattle.desk.specs.Runs.{Ran, scene}
use Rattle.desk.proofs.desk.Desk.run.Given as goal

abbrev pub invariant-loop-request : goal.invariant-loop-request
invariant-loop-request g l =
    Ran (meaning g.B.Block) (take l.request-index l.requests) (scene l.initial.self l.initial.table l.initial.outputs (vec_items l.initial.answers)) (scene l.self l.table l.outputs (vec_items l.answers))
    × (vec_len l.answers + (length l.requests - l.request-index) ≤ vec_capacity l.answers)

use Rattle.std.proofs.Common.{map, length, take}
use Rattle.block.specs.Of.{meaning}
use Rattle.station.specs.Runs.{Ran, call_of}
use Rattle.station.proofs.station.Station.run.Given as goal

abbrev pub invariant-loop-request : goal.invariant-loop-request
invariant-loop-request g l = Ran (meaning g.B.Block) (map (call_of (length l.initial.table) (length l.initial.outputs)) (take l.request-index l.requests)) l.initial.self l.self l.initial.table l.table l.initial.outputs l.outputs

use Rattle.std.proofs.Common.{length, take_all}
use Rattle.block.specs.Of.{meaning}
use Rattle.station.proofs.Running.{ran_request}
use Rattle.station.proofs.station.Station.run.Goals as goal

pub loop-request-preserved : goal.loop-request-preserved
loop-request-preserved g c =
    ran_request (meaning g.B.Block) c.args.requests.now c.loop-request.request-index _ (length c.args.table.now) (length c.args.outputs.now) _ _
    c.loop-request.auto.table c.loop-request.auto.outputs
    c.args.self.now c.loop-request.self c.serve.new.self c.args.table.now c.loop-request.table c.serve.new.table c.args.outputs.now c.loop-request.outputs c.serve.new.outputs
    c.loop-request-test.true c.loop-request.invariant c.serve.ensures

pub returns : goal.returns
returns g c = rw (take_all _ c.args.requests.now c.loop-request-test.false) at c.loop-request.invariant

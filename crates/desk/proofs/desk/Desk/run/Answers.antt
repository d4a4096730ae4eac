use Rattle.std.proofs.Common.{vec_items, rules}
use Rattle.block.specs.Of.{meaning}
use Rattle.desk.specs.Runs.{scene}
use Rattle.desk.proofs.Running.{ran_none, ran_more}
use Rattle.desk.proofs.desk.Desk.run.Goals as goal

pub loop-request-init : goal.loop-request-init
loop-request-init g c = (ran_none (meaning g.B.Block) _, search rules)

pub loop-request-preserved : goal.loop-request-preserved
loop-request-preserved g c = (
  ran_more (meaning g.B.Block) c.args.requests.now c.loop-request.request-index c.request-item.result
      (scene c.args.self.now c.args.table.now c.args.outputs.now (vec_items c.reserve.new.self))
      (scene c.loop-request.self c.loop-request.table c.loop-request.outputs (vec_items c.loop-request.answers))
      (scene c.serve_and_note.new.self c.serve_and_note.new.table c.serve_and_note.new.outputs (vec_items c.serve_and_note.new.answers))
      c.loop-request-test.true c.request-item.is c.loop-request.invariant.0 c.serve_and_note.ensures.turn c.serve_and_note.ensures.past,
  search rules,
)

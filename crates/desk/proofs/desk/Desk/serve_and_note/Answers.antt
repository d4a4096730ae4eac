use Rattle.std.proofs.Common.{Some, None, vec_items, sym}
use Rattle.std.proofs.lemmas.List.{append-nil}
use Rattle.block.specs.Of.{meaning}
use Rattle.desk.specs.Runs.{scene}
use Rattle.desk.proofs.Running.{kept_turn}
use Rattle.desk.proofs.desk.Desk.serve_and_note.Goals as goal

pub returns-in-Some-clause-past : goal.returns-in-Some-clause-past
returns-in-Some-clause-past g c = kept_turn (meaning g.B.Block) c.args.request.now (scene c.args.self.now c.args.table.now c.args.outputs.now (vec_items c.args.answers.now)) _ (Some c.in-Some.answer) c.push_reserved.ensures.items c.in-Some.ensures.served c.in-Some.ensures.past

pub returns-in_default-clause-past : goal.returns-in_default-clause-past
returns-in_default-clause-past g c = kept_turn (meaning g.B.Block) c.args.request.now (scene c.args.self.now c.args.table.now c.args.outputs.now (vec_items c.args.answers.now)) _ None (sym (append-nil _)) c.in_default.ensures.served c.in_default.ensures.past

use Rattle.std.proofs.Common.{sym, ap, ◌∙◌, rules}
use Rattle.block.specs.Laws.{StepLaws}
use Rattle.block.specs.Of.{meaning}
use Rattle.desk.specs.declared.request.Request.TheVariants as request
use Rattle.desk.proofs.Serving.{lends_blocks, lends_bytes}
use Rattle.desk.proofs.desk.Desk.serve.Given as given
use Rattle.desk.proofs.desk.Desk.serve.Goals as goal

laws : (g : given.Over) → StepLaws (meaning g.B.Block)
laws g = search rules

pub returns-in-Blocks-clause-past : goal.returns-in-Blocks-clause-past
returns-in-Blocks-clause-past g c = (lends_blocks (meaning g.B.Block) (laws g) c.args.self.now c.args.table.now c.args.outputs.now c.args.request.now _ (c.in-Blocks.is ∙ ap request.Blocks (sym c.from-self.ensures))).past

pub returns-in-Bytes-clause-past : goal.returns-in-Bytes-clause-past
returns-in-Bytes-clause-past g c = (lends_bytes (meaning g.B.Block) (laws g) c.args.self.now c.args.table.now c.args.outputs.now c.args.request.now _ (c.in-Bytes.is ∙ ap request.Bytes (sym c.from-self-in-Bytes.ensures))).past

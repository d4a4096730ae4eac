use Rattle.sheet.proofs.Wires.{outs_wired}
use Rattle.sheet.proofs.wiring.Wiring.outs.Goals as goal

pub returns-clause-wired : goal.returns-clause-wired
returns-clause-wired c = outs_wired c.args.self.now

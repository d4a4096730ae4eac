use Rattle.sheet.proofs.Wires.{rows_wired}
use Rattle.sheet.proofs.wiring.Wiring.rows.Goals as goal

pub returns-clause-wired : goal.returns-clause-wired
returns-clause-wired c = rows_wired c.args.self.now

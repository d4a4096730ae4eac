use Rattle.sheet.proofs.Unique.{rules_in_order_lem}
use Rattle.sheet.proofs.theorems.rules_in_order.Goals as goal

pub returns : goal.returns
returns c = rules_in_order_lem

use Rattle.std.proofs.Common.{rules}
use Rattle.sheet.specs.Sheet.{count_due}
use Rattle.sheet.proofs.Due.{read_step}
use Rattle.sheet.proofs.text_lines.read_count.Goals as goal

pub returns : goal.returns
returns c = read_step (count_due c.args.key.now c.args.most) c.args.reader.now c.read.new.reader c.read.ensures (λ bytes o k. search rules) (λ v k. search rules) (λ v k. search rules)

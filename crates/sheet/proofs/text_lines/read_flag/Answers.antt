use Rattle.std.proofs.Common.{refl}
use Rattle.sheet.specs.Sheet.{flag_text_due}
use Rattle.sheet.proofs.Due.{parsed_step}
use Rattle.sheet.proofs.text_lines.read_flag.Goals as goal

pub returns : goal.returns
returns c = rw c.ok_or.ensures.value (parsed_step (flag_text_due c.args.key.now) c.args.reader.now c.value.new.self c.in_ok-part.part.bytes.now c.in_ok-part.part.line c.in_ok-part.ensures refl c.parse_flag.result c.parse_flag.ensures)

use Rattle.std.proofs.Common.{◌≡◌, Some, refl, ap, ◌∙◌, arith}
use Rattle.sheet.specs.Lines.{due}
use Rattle.sheet.proofs.Handed.{due_first}
use Rattle.sheet.proofs.reader.Reader.next_line.Goals as goal

pub returns : goal.returns
returns c =
    let bytes = c.in_ok-bytes.bytes in
    let after = c.in_ok-bytes.after in
    let o : c.cut_once.result ≡ Some (bytes, after) = grind arith in
    let cut = rw o at c.cut_once.ensures in
    record { next = record { due = ap due cut.first ∙ due_first bytes.now after.now; left = cut.first; line = refl }; numbered = refl }

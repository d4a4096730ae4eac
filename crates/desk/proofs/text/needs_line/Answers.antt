use Rattle.std.proofs.Common.{vec_items, ap, ◌∙◌, arith}
use Rattle.desk.proofs.Hex.{hex_hole}
use Rattle.desk.proofs.text.needs_line.Goals as goal

pub returns : goal.returns
returns c =
    let list = hex_hole 15 c.args.list c.in_radix.result c.laid_out.result c.laid_out.ensures c.in_radix.ensures (omega arith) (omega arith) in
    ap vec_items c.into_bytes.ensures.value ∙ (rw list at c.in_ok-format.ensures.ok)

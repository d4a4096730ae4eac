use Rattle.std.proofs.Common.{◌≡◌, Option, Some, None, IfSome, get_or, vec_items, refl, ap, ◌∙◌, arith}
use Rattle.desk.proofs.Hex.{hex_hole}
use Rattle.desk.proofs.text.with_outputs.Goals as goal

for_some : {X : Type 0} (o : Option X) {P : X → Type 0} → ((x : X) → o ≡ Some x → P x) → IfSome o P
for_some None each = tt
for_some (Some x) each = each x refl

pub returns : goal.returns
returns g c =
    let first = hex_hole 1 (get_or c.args.outputs 0 0) c.in_radix.result c.laid_out.result c.laid_out.ensures c.in_radix.ensures (omega arith) (omega arith) in
    let second = hex_hole 1 (get_or c.args.outputs 1 0) c.in_radix-2.result c.laid_out-2.result c.laid_out-2.ensures c.in_radix-2.ensures (omega arith) (omega arith) in
    for_some (g.D.Display.output c.args.head.now) (λ t head. ap vec_items c.into_bytes.ensures.value ∙ (rw (head, first, second) at c.in_ok-format.ensures.ok))

use Rattle.std.proofs.Common.{◌/◌, length, arith, below_more}
use Rattle.std.proofs.lemmas.Grind.{common_steps}
use Rattle.script.proofs.Pairs.{pair_digits}
use Rattle.script.proofs.image.parse.parse_pairs.Goals as goal

pub returns-in_err-parse_hex_byte : goal.returns-in_err-parse_hex_byte
returns-in_err-parse_hex_byte c =
    let digits = pair_digits (length c.args.s.now / 2) c.loop-high.high-index c.args.s.now (omega arith) in
    let none = rw (c.as_chunks.ensures.front, digits.0, digits.1) at c.in_err-parse_hex_byte.ensures in
    rw c.from_residual.ensures (λ v w. none _ (w.each c.loop-high.high-index (omega (arith, w.twice))))

pub loop-high-preserved : goal.loop-high-preserved
loop-high-preserved c =
    let digits = pair_digits (length c.args.s.now / 2) c.loop-high.high-index c.args.s.now (omega arith) in
    let here = rw (c.as_chunks.ensures.front, digits.0, digits.1) at c.in_ok-parse_hex_byte.ensures in
    rw c.push.ensures.bytes (grind (arith, common_steps), below_more _ _ (λ k h. grind (arith, common_steps, c.loop-high.invariant.1 k h)) (grind (arith, common_steps)))

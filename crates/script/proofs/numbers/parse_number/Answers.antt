use Rattle.std.proofs.Common.{◌≡◌, ◌+◌, get_or, arith}
use Rattle.script.proofs.Growth.{too_large}
use Rattle.script.proofs.numbers.parse_number.Goals as goal

pub returns-then-n-from : goal.returns-then-n-from
returns-then-n-from c =
    let digit : 48 + c.in_ok-digit.digit ≡ get_or c.args.s.now c.loop-c.c-index 0 = grind arith in
    λ v w. too_large _ c.loop-c.n _ _ v c.args.s.now (omega arith) digit c.loop-c.invariant.0 (omega arith) w

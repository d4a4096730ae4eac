use Rattle.std.proofs.Common.{◌≡◌, ◌+◌, ◌/◌, ◌%◌, arith}
use Rattle.values.proofs.numbers.parse_pair.Goals as goal

pub returns-in_err-parse_digit : goal.returns-in_err-parse_digit
returns-in_err-parse_digit c =
    rw c.from_residual.ensures (λ n h e. let q : c.args.tens ≡ 48 + n / 10 = cc in c.in_err-parse_digit.ensures (n / 10) (omega arith) q)

pub returns-in_err-parse_digit-2 : goal.returns-in_err-parse_digit-2
returns-in_err-parse_digit-2 c =
    rw c.from_residual-in_err-parse_digit-2.ensures (λ n h e. let q : c.args.ones ≡ 48 + n % 10 = cc in c.in_err-parse_digit-2.ensures (n % 10) (omega arith) q)

use Rattle.std.proofs.Common.{◌≡◌, ℕ, ◌-◌, ◌<◌, ◌≤◌, List, length, get_or, take, decimal, sym, ap, ◌∙◌, subst, arith, tests}
use Rattle.std.proofs.lemmas.List.{take_all, length-take-le}
use Rattle.std.specs.Str.Parse.{AllDigits, digits_value}
use Rattle.std.proofs.lemmas.Int.Digits.{digits_more, digits_value_more}
use Rattle.std.proofs.lemmas.Str.{digit_value_digit}
use Rattle.std.proofs.lemmas.Str.Parse.{digits_value_short}
use Rattle.std.proofs.lemmas.Fmt.{decimal-digits_value}
use Rattle.values.proofs.Times.{own, time_some, time_short, time_digit, time_first}
use Rattle.values.proofs.numbers.parse_time.Goals as goal
use Rattle.values.proofs.numbers.parse_time.Goals.{then-not-contains-via-then-not-contains, then-not-contains-via-else-not-contains+then-matches, in-48, in_default, in_default-2}

pub returns-then-not-contains : goal.returns-then-not-contains
returns-then-not-contains c = λ n h e. let a = time_some _ n h e in let b = time_short _ n h e in grind (arith, tests, time_first c.args.s.now n h e)

pub returns-in_err-parse_digit : goal.returns-in_err-parse_digit
returns-in_err-parse_digit c =
    rw c.from_residual.ensures (λ n h e. let t = time_digit c.args.s.now n h e c.loop-b.b-index (omega arith) in c.in_err-parse_digit.ensures (get_or c.args.s.now c.loop-b.b-index 0 - 48) (omega arith) (omega arith))

-- before the turn at an index, the number has at most four digits
few : (s : List ℕ) (i n : ℕ) → i < length s → length s ≤ 5 → n ≡ digits_value 10 (take i s) → AllDigits 10 (take i s) → n < 10000
few s i n h k e d = omega (arith, digits_value_short own (take i s) 4 d (omega (arith, length-take-le i s (omega arith))))

pub overflow_mul-n : goal.overflow_mul-n
overflow_mul-n c = omega (arith, few c.args.s.now c.loop-b.b-index c.loop-b.n (omega arith) (grind (arith, tests)) c.loop-b.invariant.0 c.loop-b.invariant.1)

pub overflow_add-n : goal.overflow_add-n
overflow_add-n c = omega (arith, few c.args.s.now c.loop-b.b-index c.loop-b.n (omega arith) (grind (arith, tests)) c.loop-b.invariant.0 c.loop-b.invariant.1)

pub loop-b-preserved : goal.loop-b-preserved
loop-b-preserved c =
    let s = c.args.s.now in
    let i = c.loop-b.b-index in
    let d = c.in_ok-parse_digit.ensures in
    let f = c.from.ensures in
    let v = digit_value_digit (get_or s i 0) (omega arith, omega arith) in
    (rw (digits_value_more 10 s i (omega arith)) (omega arith), digits_more 10 s i (omega arith) c.loop-b.invariant.1 (omega arith))

pub returns : goal.returns
returns c =
    let s = c.args.s.now in
    let all : take c.loop-b.b-index s ≡ s = take_all _ s (omega arith) in
    let v : c.loop-b.n ≡ digits_value 10 s = c.loop-b.invariant.0 ∙ ap (digits_value 10) all in
    let d : AllDigits 10 s = subst (AllDigits 10) all c.loop-b.invariant.1 in
    let few : length s ≤ 5 = grind (arith, tests) in
    let some : 1 ≤ length s = grind (arith, tests) in
    let alone : get_or s 0 0 ≡ 48 → length s ≡ 1 = λ z. grind (arith, tests) in
    (omega (arith, digits_value_short own s 5 d few), sym (ap decimal v ∙ decimal-digits_value own s d some alone (omega (arith, digits_value_short own s 5 d few))))

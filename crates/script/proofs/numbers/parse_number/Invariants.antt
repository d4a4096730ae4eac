use Rattle.std.proofs.Common.{◌≡◌, ◌≤◌, take, drop}
use Rattle.std.specs.List.{AllByRecursion}
use Rattle.script.specs.Numbers.{Digit, value_after}
use Rattle.script.proofs.numbers.parse_number.Given as goal

abbrev pub invariant-loop-c : goal.invariant-loop-c
invariant-loop-c l = (value_after 0 l.s ≡ value_after l.n (drop l.c-index l.s)) × AllByRecursion Digit (take l.c-index l.s) × (l.n ≤ l.limit)

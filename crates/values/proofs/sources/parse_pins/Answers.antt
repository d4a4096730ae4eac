use Rattle.values.proofs.Pins.{not_one, not_two, not_three, not_first, not_second, not_third, not_fourth}
use Rattle.values.proofs.sources.parse_pins.Goals as goal

pub returns-in_err-a : goal.returns-in_err-a
returns-in_err-a c = rw c.from_residual.ensures (λ v h e. not_one c.args.s.now v h e c.in_err-a.ensures)

pub returns-in_err-b : goal.returns-in_err-b
returns-in_err-b c = rw c.from_residual-in_err-b.ensures (λ v h e. not_two c.args.s.now v h e c.in_ok-a.rest.now c.in_ok-a.ensures.first c.in_err-b.ensures)

pub returns-in_err-c : goal.returns-in_err-c
returns-in_err-c c = rw c.from_residual-in_err-c.ensures (λ v h e. not_three c.args.s.now v h e c.in_ok-a.rest.now c.in_ok-b.rest.now c.in_ok-a.ensures.first c.in_ok-b.ensures.first c.in_err-c.ensures)

pub returns-in_err-parse_source : goal.returns-in_err-parse_source
returns-in_err-parse_source c = rw c.from_residual-in_err-parse_source.ensures (λ v h e. not_first c.args.s.now v h e c.in_ok-a.ensures.first c.in_err-parse_source.ensures)

pub returns-in_err-parse_source-2 : goal.returns-in_err-parse_source-2
returns-in_err-parse_source-2 c = rw c.from_residual-in_err-parse_source-2.ensures (λ v h e. not_second c.args.s.now v h e c.in_ok-a.rest.now c.in_ok-a.ensures.first c.in_ok-b.ensures.first c.in_err-parse_source-2.ensures)

pub returns-in_err-parse_source-3 : goal.returns-in_err-parse_source-3
returns-in_err-parse_source-3 c = rw c.from_residual-in_err-parse_source-3.ensures (λ v h e. not_third c.args.s.now v h e c.in_ok-a.rest.now c.in_ok-b.rest.now c.in_ok-a.ensures.first c.in_ok-b.ensures.first c.in_ok-c.ensures.first c.in_err-parse_source-3.ensures)

pub returns-in_err-parse_source-4 : goal.returns-in_err-parse_source-4
returns-in_err-parse_source-4 c = rw c.from_residual-in_err-parse_source-4.ensures (λ v h e. not_fourth c.args.s.now v h e c.in_ok-a.rest.now c.in_ok-b.rest.now c.in_ok-c.d.now c.in_ok-a.ensures.first c.in_ok-b.ensures.first c.in_ok-c.ensures.first c.in_err-parse_source-4.ensures)

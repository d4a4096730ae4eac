-- A group of rising blocks is a rising block.
use Rattle.std.proofs.Common.{rules, ◌≡◌, true}
use Rattle.block.specs.declared.types.Input.{Input}
use Rattle.block.specs.Laws.{StepLaws, WaitingCanComeOn}
use Rattle.block.specs.Meaning.{Meaning}
use Rattle.block.specs.Rises.{Rises}
use Rattle.block.specs.Runs.{ResetOff}
use Rattle.block.proofs.Rise.{comes_on_at_a_rise}
use Rattle.group.specs.Group.{turned_input, grouped}
use Rattle.group.specs.Laws.{group_steps}
use Rattle.group.specs.Steps.{group_no_fault, group_ends_off, group_ends_waiting}

turned_off : (i : Input) → ResetOff i → ResetOff (turned_input i)
turned_off i q = record { active = q.active; off = q.off }

off_active : (i : Input) → ResetOff i → i.active ≡ true
off_active i q = q.active

module _ {A B : Type 0} (a : Meaning A) (b : Meaning B) (la : StepLaws a) (lb : StepLaws b) (ra : Rises a) (rb : Rises b) where
  pub group_rises : Rises (grouped a b)
  group_rises = record {
    at_a_rise = λ g i w. let x = ra.at_a_rise g.first i in let y = rb.at_a_rise g.second (turned_input i) in search rules;
    else_waits = λ g i w e c r.
        let x = ra.at_a_rise g.first i in
        let y = rb.at_a_rise g.second (turned_input i) in
        let sx = ra.else_waits g.first i in
        let sy = rb.else_waits g.second (turned_input i) in
        let kx = la.keeps_on g.first i in
        let ky = lb.keeps_on g.second (turned_input i) in
        search rules;
    ends_off = group_ends_off ResetOff off_active turned_off a b la lb ra.no_fault rb.no_fault ra.ends_off rb.ends_off;
    ends_waiting = group_ends_waiting ResetOff off_active turned_off a b la lb ra.ends_waiting rb.ends_waiting;
    no_fault = group_no_fault ResetOff off_active turned_off a b la lb ra.no_fault rb.no_fault;
  }

  pub group_comes_on : WaitingCanComeOn (grouped a b)
  group_comes_on = comes_on_at_a_rise (grouped a b) (group_steps a b la lb) group_rises

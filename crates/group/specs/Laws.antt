-- A group keeps the laws of the interface, from the laws of its members.
use Rattle.std.proofs.Common.{rules, ◌≡◌, true}
use Rattle.block.specs.declared.types.Input.{Input}
use Rattle.block.specs.Laws.{StepLaws}
use Rattle.block.specs.Meaning.{Meaning}
use Rattle.block.specs.Runs.{Quiet}
use Rattle.group.specs.Group.{turned_input, grouped}
use Rattle.group.specs.Steps.{group_no_fault, group_ends_off, group_ends_waiting}

-- a quiet step is quiet for the second member too
turned_quiet : (i : Input) → Quiet i → Quiet (turned_input i)
turned_quiet i q = record { active = q.active; off = q.off; was_off = q.was_off }

quiet_active : (i : Input) → Quiet i → i.active ≡ true
quiet_active i q = q.active

module _ {A B : Type 0} (a : Meaning A) (b : Meaning B) (la : StepLaws a) (lb : StepLaws b) where
  pub group_steps : StepLaws (grouped a b)
  group_steps = record {
    made_idle = λ s. let x = la.made_idle s in let y = lb.made_idle s in search rules;
    inactive = λ g i e. let x = la.inactive g.first i e in let y = lb.inactive g.second (turned_input i) e in search rules;
    active = λ g i e. let x = la.active g.first i e in let y = lb.active g.second (turned_input i) e in search rules;
    was_clear = λ g i e. let x = la.was_clear g.first i in let y = lb.was_clear g.second (turned_input i) in search rules;
    keeps_on = λ g i e c on. let x = la.keeps_on g.first i e in let y = lb.keeps_on g.second (turned_input i) e in search rules;
    released = λ g i w.
        let x = la.released g.first i in
        let y = lb.released g.second (turned_input i) in
        let kx = la.keeps_on g.first i in
        let ky = lb.keeps_on g.second (turned_input i) in
        let cx = la.was_clear g.first i in
        let cy = lb.was_clear g.second (turned_input i) in
        let rx = la.inactive g.first i in
        (λ e. (search rules, search rules, search rules), λ h. search rules);
    edge = λ g i r. let x = la.edge g.first i in let y = lb.edge g.second (turned_input i) in search rules;
    fault = λ g i f on. let x = la.fault g.first i in let y = lb.fault g.second (turned_input i) in search rules;
    no_start = record {
      not_on = λ g i l m on.
          let x = la.no_start.not_on g.first i in
          let y = lb.no_start.not_on g.second (turned_input i) in
          search rules;
      not_waiting = λ g i l m w.
          let x = la.no_start.not_on g.first i in
          let y = lb.no_start.not_on g.second (turned_input i) in
          let wx = la.no_start.not_waiting g.first i in
          let wy = lb.no_start.not_waiting g.second (turned_input i) in
          search rules;
    };
    ends_off = group_ends_off Quiet quiet_active turned_quiet a b la lb la.no_fault lb.no_fault la.ends_off lb.ends_off;
    ends_waiting = group_ends_waiting Quiet quiet_active turned_quiet a b la lb la.ends_waiting lb.ends_waiting;
    no_fault = group_no_fault Quiet quiet_active turned_quiet a b la lb la.no_fault lb.no_fault;
    stay = record {
      clear = λ g i w. let x = la.stay.clear g.first i w in let y = lb.stay.clear g.second (turned_input i) in search rules;
      latched = λ g i. let x = la.stay.latched g.first i in let y = lb.stay.latched g.second (turned_input i) in search rules;
    };
  }

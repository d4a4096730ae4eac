-- What laws 9 to 11 of the members give the group, for any class of active steps that the turn of the word keeps.
use Rattle.std.proofs.Common.{rules, ◌≡◌, true}
use Rattle.block.specs.declared.types.Input.{Input}
use Rattle.block.specs.Laws.{StepLaws, LatchedIdleEndsOff, LatchedClearEndsWaiting, LatchedGetsNoFault}
use Rattle.block.specs.Meaning.{Meaning}
use Rattle.group.specs.Group.{turned_input, grouped}

module _ (Step : Input → Type 0) (active : (i : Input) → Step i → i.active ≡ true) (turns : (i : Input) → Step i → Step (turned_input i)) {A B : Type 0} (a : Meaning A) (b : Meaning B) (la : StepLaws a) (lb : StepLaws b) where
  pub group_no_fault : LatchedGetsNoFault Step a → LatchedGetsNoFault Step b → LatchedGetsNoFault Step (grouped a b)
  group_no_fault fa fb g i l n q e =
      let q' = turns i q in
      let x = fa g.first i in
      let y = fb g.second (turned_input i) in
      search rules

  pub group_ends_off : LatchedGetsNoFault Step a → LatchedGetsNoFault Step b → LatchedIdleEndsOff Step a → LatchedIdleEndsOff Step b → LatchedIdleEndsOff Step (grouped a b)
  group_ends_off fa fb oa ob g i l m q =
      let q' = turns i q in
      let on = active i q in
      let x = oa g.first i in
      let y = ob g.second (turned_input i) in
      let fx = fa g.first i in
      let fy = fb g.second (turned_input i) in
      let ax = la.active g.first i in
      let ay = lb.active g.second (turned_input i) in
      search rules

  pub group_ends_waiting : LatchedClearEndsWaiting Step a → LatchedClearEndsWaiting Step b → LatchedClearEndsWaiting Step (grouped a b)
  group_ends_waiting wa wb g i l m q c =
      let q' = turns i q in
      let on = active i q in
      let x = wa g.first i in
      let y = wb g.second (turned_input i) in
      let kx = la.keeps_on g.first i in
      let ky = lb.keeps_on g.second (turned_input i) in
      search rules

-- A block under a button keeps the laws of single steps, from the laws of the inner block.
use Rattle.std.proofs.Common.{rules, ◌≡◌, ap, inl, inr, ⊎_elim}
use Rattle.block.specs.declared.types.Mode.TheVariants.{Fault}
use Rattle.block.specs.Laws.{StepLaws}
use Rattle.block.specs.Meaning.{Meaning}
use Rattle.reset.specs.Machine.{in_error}
use Rattle.button.specs.Button.{inner_step, button_mode, is_in_error, buttoned}
use Rattle.button.specs.Modes.{idle_in, idle_out, off_in, off_out, on_in, on_out, waiting_in, waiting_out, fault_in, fault_cases, fault_out, pulse_in, inner_quiet, no_error_back}

module _ {B : Type 0} (m : Meaning B) (law : StepLaws m) where
  pub button_steps : StepLaws (buttoned m)
  button_steps = record {
    made_idle = λ s. idle_out _ _ (law.made_idle s);
    inactive = λ b i a. idle_out _ _ (law.inactive b.inner (inner_step m b i) a);
    active = λ b i a e. law.active b.inner (inner_step m b i) a (idle_in _ _ e);
    was_clear = λ b i e.
        let was = law.was_clear b.inner (inner_step m b i) in
        ⊎_elim (λ on. was (inl (on_in _ _ on))) (λ w. was (inr (waiting_in _ _ w).inner)) e;
    keeps_on = λ b i a c on. on_out _ _ (law.keeps_on b.inner (inner_step m b i) a c (on_in _ _ on));
    released = λ b i w.
        let both = law.released b.inner (inner_step m b i) (waiting_in _ _ w).inner in
        (λ on. both.0 (on_in _ _ on), λ h. on_out _ _ (both.1 h));
    edge = λ b i r.
        let inner = law.edge b.inner (inner_step m b i) r in
        let fell = pulse_in (m.mode b.inner) b.button i inner.1 in
        (waiting_out _ _ (record { inner = inner.0; no_error = ap in_error fell.from }), λ same. search rules);
    fault = λ b i f on.
        let is_on = on_in _ _ on in
        ⊎_elim
        (λ inner. law.fault b.inner (inner_step m b i) inner is_on)
        (λ held.
        let releases = ((law.released b.inner (inner_step m b i) held.0).0 is_on).2 in
        let fell = pulse_in (m.mode b.inner) b.button i (law.edge b.inner (inner_step m b i) releases).1 in
        let fine = ap in_error fell.from in
        search rules)
        (fault_cases _ _ f);
    no_start = record {
      not_on = λ b i l e on.
          let not_on = law.no_start.not_on b.inner (inner_step m b i) l in
          ⊎_elim (λ idle. not_on (inl (idle_in _ _ idle)) (on_in _ _ on)) (λ off. not_on (inr (off_in _ _ off)) (on_in _ _ on)) e;
      not_waiting = λ b i l idle w. law.no_start.not_waiting b.inner (inner_step m b i) l (idle_in _ _ idle) (waiting_in _ _ w).inner;
    };
    ends_off = λ b i l idle q.
        let quiet = inner_quiet (m.mode b.inner) b.button i (λ f. search rules) q in
        off_out _ _ (law.ends_off b.inner (inner_step m b i) l (idle_in _ _ idle) quiet);
    ends_waiting = λ b i l e q c.
        let calm : button_mode (m.mode b.inner) (is_in_error b.button) ≡ Fault → ⊥ = λ f. search rules in
        let quiet = inner_quiet (m.mode b.inner) b.button i calm q in
        let inner = law.ends_waiting b.inner (inner_step m b i) l in
        let fine = no_error_back (m.mode b.inner) b.button i calm q in
        ⊎_elim
        (λ off. waiting_out _ _ (record { inner = inner (inl (off_in _ _ off)) quiet c; no_error = fine }))
        (λ w. waiting_out _ _ (record { inner = inner (inr (waiting_in _ _ w).inner) quiet c; no_error = fine }))
        e;
    no_fault = λ b i l n q f.
        let quiet = inner_quiet (m.mode b.inner) b.button i n q in
        let fine = no_error_back (m.mode b.inner) b.button i n q in
        law.no_fault b.inner (inner_step m b i) l (λ e. n (fault_out _ _ e)) quiet (fault_in _ _ f fine);
    stay = record {
      clear = λ b i w. law.stay.clear b.inner (inner_step m b i) w;
      latched = λ b i. law.stay.latched b.inner (inner_step m b i);
    };
  }

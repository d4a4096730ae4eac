-- The layer is what the relations say of its inner block and button.
use Rattle.std.proofs.Common.{rules, refl}
use Rattle.block.specs.Laws.{StepLaws}
use Rattle.block.specs.Meaning.{Meaning}
use Rattle.button.specs.declared.Button.{Button}
use Rattle.button.specs.Button.{button_input, inner_step, buttoned}
use Rattle.button.specs.Inner.{Buttons}
use Rattle.button.specs.Modes.{waiting_in, waiting_out, fault_cases}

module _ {B : Type 0} (m : Meaning B) (law : StepLaws m) where
  pub button_relations : Buttons (λ (b : Button B). b.inner) (λ b. b.button) m (buttoned m)
  button_relations = record {
    fault = λ x. (fault_cases _ _, λ h. search rules);
    waiting = λ x. (λ h. let w = waiting_in _ _ h in (w.inner, w.no_error), λ h. waiting_out _ _ (record { inner = h.0; no_error = h.1 }));
    other = λ x o f w. search rules;
    clear = λ x w. (λ h. h, λ h. h);
    latched = λ x. (λ h. h, λ h. h);
    requests = λ x. (λ h. h, λ h. h);
    shows_button = λ x w. search rules;
    shows_inner = λ x n. search rules;
    button = λ x i. record {
      input = button_input (m.mode x.inner) i;
      requested = (λ h. search rules, λ h. search rules);
      now = refl;
      before = refl;
      elapsed = refl;
      follows = refl;
    };
    stepped = λ x i. record {
      seen = inner_step m x i;
      steps = record { active = refl; word = refl; now = refl; before = refl; elapsed = refl };
      next = refl;
      releases = (λ h. h, λ h. h);
      pulse = λ h. let apart = (law.edge x.inner (inner_step m x i) h).1 in search rules;
    };
    makes_inner = λ s. refl;
    makes_button = λ s. refl;
  }

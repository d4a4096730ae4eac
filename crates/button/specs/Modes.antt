-- What the layer's mode says of the inner mode and the button, and the other way round.
use Rattle.std.proofs.Common.{rules, ◌≡◌, refl, ap, ◌∙◌, Bool, true, false, ◌⊎◌, inl, inr}
use Rattle.block.specs.declared.types.Input.{Input}
use Rattle.block.specs.declared.types.Mode.{Mode}
use Rattle.block.specs.declared.types.Mode.TheVariants.{Idle, Off, Waiting, On, Fault}
use Rattle.block.specs.Runs.{Quiet}
use Rattle.reset.specs.declared.fields.ButtonFields.{ButtonFields}
use Rattle.reset.specs.Limits.{read_back}
use Rattle.reset.specs.Machine.{in_error, is_pulse}
use Rattle.reset.proofs.Facts.{read_stepped, pulse_fell, Fell, quiet_calm, Calm}
use Rattle.button.specs.Button.{button_input, fields_next, inner_input, button_mode, is_in_error}

pub idle_in : (m : Mode) (e : Bool) → button_mode m e ≡ Idle → m ≡ Idle
idle_in m e h = search rules

pub idle_out : (m : Mode) (e : Bool) → m ≡ Idle → button_mode m e ≡ Idle
idle_out m e h = search rules

pub off_in : (m : Mode) (e : Bool) → button_mode m e ≡ Off → m ≡ Off
off_in m e h = search rules

pub off_out : (m : Mode) (e : Bool) → m ≡ Off → button_mode m e ≡ Off
off_out m e h = search rules

pub on_in : (m : Mode) (e : Bool) → button_mode m e ≡ On → m ≡ On
on_in m e h = search rules

pub on_out : (m : Mode) (e : Bool) → m ≡ On → button_mode m e ≡ On
on_out m e h = search rules

-- the layer waits: the inner block waits and the button is in no C state
pub record Waits (m : Mode) (e : Bool) : Type 0 where
  pub inner : m ≡ Waiting
  pub no_error : e ≡ false

pub waiting_in : (m : Mode) (e : Bool) → button_mode m e ≡ Waiting → Waits m e
waiting_in m e h = record { inner = search rules; no_error = search rules }

pub waiting_out : (m : Mode) (e : Bool) → Waits m e → button_mode m e ≡ Waiting
waiting_out m e w = let i = w.inner in let n = w.no_error in search rules

pub fault_in : (m : Mode) (e : Bool) → button_mode m e ≡ Fault → e ≡ false → m ≡ Fault
fault_in m e h n = search rules

-- a fault of the layer: the inner block's, or the button's while the inner block waits
pub fault_cases : (m : Mode) (e : Bool) → button_mode m e ≡ Fault → (m ≡ Fault) ⊎ ((m ≡ Waiting) × (e ≡ true))
fault_cases Idle e h = inl (search rules)
fault_cases Off e h = inl (search rules)
fault_cases Waiting e h = inr (refl, search rules)
fault_cases On e h = inl (search rules)
fault_cases Fault e h = inl refl

pub fault_out : (m : Mode) (e : Bool) → m ≡ Fault → button_mode m e ≡ Fault
fault_out m e h = search rules

-- waiting with a C state is a fault
pub error_out : (m : Mode) (e : Bool) → m ≡ Waiting → (button_mode m e ≡ Fault → ⊥) → e ≡ false
error_out m e h n = search rules

module _ (m : Mode) (f : ButtonFields) (i : Input) where
  -- the state that is read back after a step is the state of the step
  pub error_back : is_in_error (fields_next m f i) ≡ in_error (fields_next m f i).state
  error_back = ap (λ (x : ButtonFields). in_error x.state) (read_stepped f (button_input m i))

  -- a step with a pulse is a fall, out of 83F2
  pub pulse_in : (is_pulse (fields_next m f i).state ≡ false → ⊥) → Fell (read_back f) (button_input m i)
  pulse_in h = pulse_fell (read_back f) (button_input m i) (search rules)

  -- a quiet step of a layer that is not in fault gives no pulse and leads into no C state
  pub quiet_in : (button_mode m (is_in_error f) ≡ Fault → ⊥) → Quiet i → Calm (fields_next m f i)
  quiet_in n q = quiet_calm (read_back f) (button_input m i) q.off q.was_off (λ r. error_out m (is_in_error f) (search rules) n)

  -- and it is quiet for the inner block too
  pub inner_quiet : (button_mode m (is_in_error f) ≡ Fault → ⊥) → Quiet i → Quiet (inner_input (fields_next m f i) i)
  inner_quiet n q = record { active = q.active; off = (quiet_in n q).no_pulse; was_off = refl }

  pub no_error_back : (button_mode m (is_in_error f) ≡ Fault → ⊥) → Quiet i → is_in_error (fields_next m f i) ≡ false
  no_error_back n q = error_back ∙ (quiet_in n q).no_error

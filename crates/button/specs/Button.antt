-- The meaning of a block under a button, from the meaning of the inner block.
use Rattle.std.specs.Prelude.{Bool, false, ◌&&◌, cond}
use Rattle.block.specs.declared.code.Code.{Code}
use Rattle.block.specs.declared.types.Input.{Input}
use Rattle.block.specs.declared.types.Mode.{Mode}
use Rattle.block.specs.declared.types.Mode.TheVariants.{Fault}
use Rattle.block.specs.Meaning.{Meaning}
use Rattle.block.specs.Modes.{is_waiting}
use Rattle.reset.specs.declared.fields.ButtonFields.{ButtonFields}
use Rattle.reset.specs.declared.fields.ButtonState.{ButtonState}
use Rattle.reset.specs.declared.fields.ResetInput.{ResetInput}
use Rattle.reset.specs.Limits.{read_back}
use Rattle.reset.specs.Machine.{made_button, button_next, button_code, is_pulse, in_error}
use Rattle.button.specs.declared.Button.{Button}

-- what a step brings the button; m is the inner mode before it
abbrev pub button_input : Mode → Input → ResetInput
button_input m i = record { requested = i.active && is_waiting m; now = i.now; before = i.before; elapsed = i.elapsed }

-- the fields after a step of a layer whose inner block has the mode m
abbrev pub fields_next : Mode → ButtonFields → Input → ButtonFields
fields_next m f i = button_next (read_back f) (button_input m i)

-- a pulse is a rise for the inner block
abbrev pub inner_input : ButtonFields → Input → Input
inner_input f i = record { active = i.active; word = i.word; now = is_pulse f.state; before = false; elapsed = i.elapsed }

-- a C state of the button is a fault while the inner block waits
abbrev pub button_mode : Mode → Bool → Mode
button_mode m error = cond (is_waiting m && error) Fault m

-- whether the button is in a C state, read from plain fields
abbrev pub is_in_error : ButtonFields → Bool
is_in_error f = in_error (read_back f).state

-- while the inner block waits, the button tells why
abbrev pub shown_code : Mode → ButtonState → Code → Code
shown_code m s c = cond (is_waiting m) (button_code s) c

-- the step of the inner block that a step of the layer brings
abbrev pub inner_step : {B : Type 0} → Meaning B → Button B → Input → Input
inner_step m b i = inner_input (fields_next (m.mode b.inner) b.button i) i

abbrev pub buttoned : {B : Type 0} → Meaning B → Meaning (Button B)
buttoned m = record {
  mode = λ b. button_mode (m.mode b.inner) (is_in_error b.button);
  clear = λ b w. m.clear b.inner w;
  latched = λ b. m.latched b.inner;
  releases = λ b i. m.releases b.inner (inner_step m b i);
  next = λ b i. record { inner = m.next b.inner (inner_step m b i); button = fields_next (m.mode b.inner) b.button i };
  made = λ s. record { inner = m.made s; button = made_button s.times };
  code = λ b. shown_code (m.mode b.inner) (read_back b.button).state (m.code b.inner);
  requests = λ b. m.requests b.inner;
}

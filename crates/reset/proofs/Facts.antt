-- What the layer above uses of the button's machine.
use Rattle.std.proofs.Common.{rules, ◌≡◌, true, false}
use Rattle.reset.specs.declared.fields.ButtonFields.{ButtonFields}
use Rattle.reset.specs.declared.fields.ButtonState.{ButtonState}
use Rattle.reset.specs.declared.fields.ButtonState.TheVariants.{Idle, WaitForRise, WaitForFall, Pulse, StuckOn, TooLong, TooShort}
use Rattle.reset.specs.declared.fields.ResetInput.{ResetInput}
use Rattle.reset.specs.Limits.{button_allowed, read_back}
use Rattle.reset.specs.Machine.{pressed_next, requested_next, button_next, is_pulse, in_error}

-- the limits hold of the fields
abbrev pub Allowed : ButtonFields → Type 0
Allowed f = button_allowed f.min f.max f.time ≡ true

pub read_allowed : (f : ButtonFields) → Allowed (read_back f)
read_allowed f = search rules

pressed_allowed : (f : ButtonFields) (i : ResetInput) → Allowed f → Allowed (pressed_next f i)
pressed_allowed f i h = search rules

requested_allowed : (s : ButtonState) (f : ButtonFields) (i : ResetInput) → Allowed f → Allowed (requested_next s f i)
requested_allowed Idle f i h = search rules
requested_allowed WaitForRise f i h = search rules
requested_allowed WaitForFall f i h = let p = pressed_allowed f i h in search rules
requested_allowed Pulse f i h = search rules
requested_allowed StuckOn f i h = search rules
requested_allowed TooLong f i h = search rules
requested_allowed TooShort f i h = search rules

next_allowed : (f : ButtonFields) (i : ResetInput) → Allowed f → Allowed (button_next f i)
next_allowed f i h = search (rules, requested_allowed)

-- what a step has put back is read as it was put
pub read_stepped : (f : ButtonFields) (i : ResetInput) → read_back (button_next (read_back f) i) ≡ button_next (read_back f) i
read_stepped f i = let h = next_allowed (read_back f) i (read_allowed f) in rw h

-- a pulse comes only out of 83F2, at a fall, of a requested button
pub record Fell (f : ButtonFields) (i : ResetInput) : Type 0 where
  pub requested : i.requested ≡ true
  pub from : f.state ≡ WaitForFall
  pub off : i.now ≡ false
  pub was_on : i.before ≡ true

pub pulse_fell : (f : ButtonFields) (i : ResetInput) → is_pulse (button_next f i).state ≡ true → Fell f i
pulse_fell f i h = record { requested = search rules; from = search rules; off = search rules; was_on = search rules }

-- neither a pulse nor a C state
pub record Calm (f : ButtonFields) : Type 0 where
  pub no_error : in_error f.state ≡ false
  pub no_pulse : is_pulse f.state ≡ false

-- with the button off now and before, none of the two comes
pub quiet_calm : (f : ButtonFields) (i : ResetInput) → i.now ≡ false → i.before ≡ false → (i.requested ≡ true → in_error f.state ≡ false) → Calm (button_next f i)
quiet_calm f i off was_off fine = record { no_error = search rules; no_pulse = search rules }

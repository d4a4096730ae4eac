-- The reset button's machine, arrow by arrow, over its plain fields.
use Rattle.std.specs.Prelude.{Bool, true, false, ◌||◌, cond, ℕ, ◌+◌, nat_lt}
use Rattle.block.specs.declared.code.Code.{Code}
use Rattle.block.specs.declared.code.Code.TheVariants as code
use Rattle.block.specs.declared.times.Times.{Times}
use Rattle.block.specs.Codes.{number_of, error_of}
use Rattle.block.specs.Runs.{rise}
use Rattle.reset.specs.declared.fields.ButtonFields.{ButtonFields}
use Rattle.reset.specs.declared.fields.ButtonState.{ButtonState}
use Rattle.reset.specs.declared.fields.ButtonState.TheVariants.{Idle, WaitForRise, WaitForFall, Pulse, StuckOn, TooLong, TooShort}
use Rattle.reset.specs.declared.fields.ResetInput.{ResetInput}

-- the button as it is made
abbrev pub made_button : Times → ButtonFields
made_button t = record { state = Idle; time = 0; min = t.min; max = t.max }

-- goes to a state, with time 0
abbrev pub entering : ButtonFields → ButtonState → ButtonFields
entering f s = record { state = s; time = 0; min = f.min; max = f.max }

-- stays, with another running time
abbrev pub lasting : ButtonFields → ℕ → ButtonFields
lasting f t = record { state = f.state; time = t; min = f.min; max = f.max }

-- a pressed button, or one that falls: too long, still pressed, too short, or a pulse
abbrev pub pressed_next : ButtonFields → ResetInput → ButtonFields
pressed_next f i =
    cond (nat_lt f.max (f.time + i.elapsed)) (entering f TooLong)
    (cond i.now (lasting f (f.time + i.elapsed))
    (cond (nat_lt (f.time + i.elapsed) f.min) (entering f TooShort) (entering f Pulse)))

-- a requested button
abbrev pub requested_next : ButtonState → ButtonFields → ResetInput → ButtonFields
-- out of 0000: on already is a fault
requested_next Idle f i = cond i.now (entering f StuckOn) (entering f WaitForRise)
-- out of 83E2: by the level, not by a rise
requested_next WaitForRise f i = cond i.now (entering f WaitForFall) f
-- out of 83F2: a button that was not seen on any more is not pressed
requested_next WaitForFall f i = cond (i.now || i.before) (pressed_next f i) (entering f WaitForRise)
-- the pulse lasts one step
requested_next Pulse f i = entering f WaitForRise
-- C001 leaves once the button is off
requested_next StuckOn f i = cond i.now f (entering f WaitForRise)
-- C3E0 and C3F0 leave at a new press
requested_next TooLong f i = cond (rise i.now i.before) (entering f WaitForFall) f
requested_next TooShort f i = cond (rise i.now i.before) (entering f WaitForFall) f

-- without a request it rests in 0000
abbrev pub button_next : ButtonFields → ResetInput → ButtonFields
button_next f i = cond i.requested (requested_next f.state f i) (entering f Idle)

abbrev pub button_code : ButtonState → Code
button_code Idle = code.H0000
button_code WaitForRise = code.H83E2
button_code WaitForFall = code.H83F2
button_code Pulse = code.H8000
button_code StuckOn = code.HC001
button_code TooLong = code.HC3E0
button_code TooShort = code.HC3F0

-- the pulse is state 8000
abbrev pub is_pulse : ButtonState → Bool
is_pulse Idle = false
is_pulse WaitForRise = false
is_pulse WaitForFall = false
is_pulse Pulse = true
is_pulse StuckOn = false
is_pulse TooLong = false
is_pulse TooShort = false

-- a C state: one whose code tells an error
abbrev pub in_error : ButtonState → Bool
in_error s = error_of (number_of (button_code s))

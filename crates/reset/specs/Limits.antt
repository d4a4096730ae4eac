-- What every value of the reset button keeps, and how plain fields are read.
use Rattle.std.specs.Prelude.{Bool, ◌&&◌, not, cond, ℕ, nat_le}
use Rattle.block.specs.Limits.{times_allowed, shortest_press, longest_press}
use Rattle.reset.specs.declared.fields.ButtonFields.{ButtonFields}
use Rattle.reset.specs.declared.fields.ButtonState.TheVariants.{Idle}

-- the times are a sheet's, and the running time is within max
abbrev pub button_allowed : ℕ → ℕ → ℕ → Bool
button_allowed min max time = times_allowed min max && nat_le time max

-- the one lawful button that fields outside the limits are read as
abbrev pub fixed_button : ButtonFields
fixed_button = record { state = Idle; time = 0; min = shortest_press; max = longest_press }

-- how plain fields of lent memory are read
abbrev pub read_back : ButtonFields → ButtonFields
read_back f = cond (button_allowed f.min f.max f.time) f fixed_button

-- C000, the code of a reset button whose times are outside their limits
abbrev pub parameter_error : ℕ
parameter_error = 0xC000

-- whether that code is due
abbrev pub parameter_error_due : ℕ → ℕ → Bool
parameter_error_due min max = not (times_allowed min max)

-- The limits that a sheet's settings and times keep.
use Rattle.std.specs.Prelude.{ℕ, Bool, true, false, not, ◌&&◌, ◌||◌, nat_le}
use Rattle.block.specs.declared.types.Kind.{Kind}
use Rattle.block.specs.declared.types.Kind.TheVariants.{And, Or, Estop}

-- the limits of a press, in milliseconds
abbrev pub shortest_press : ℕ
shortest_press = 100

abbrev pub longest_press : ℕ
longest_press = 60000

-- min is at most max, and both are within the limits of a press
abbrev pub times_allowed : ℕ → ℕ → Bool
times_allowed min max = nat_le shortest_press min && (nat_le min max && nat_le max longest_press)

-- the kinds that may have start or auto 1
abbrev pub has_restart : Kind → Bool
has_restart And = false
has_restart Or = false
has_restart Estop = true

-- start and auto are 0 unless the kind may have them
abbrev pub settings_allowed : Kind → Bool → Bool → Bool
settings_allowed kind start auto = has_restart kind || not (start || auto)

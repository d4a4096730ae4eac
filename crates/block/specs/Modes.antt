-- The words of the modes, and tests of a mode.
use Rattle.std.specs.Prelude.{ℕ, Bool, true, false, List, codes}
use Rattle.block.specs.declared.types.Mode.{Mode}
use Rattle.block.specs.declared.types.Mode.TheVariants.{Idle, Off, Waiting, On, Fault}

-- as reports name them
abbrev pub mode_word : Mode → List ℕ
mode_word Idle = codes "idle"
mode_word Off = codes "off"
mode_word Waiting = codes "wait"
mode_word On = codes "on"
mode_word Fault = codes "fault"

abbrev pub is_idle : Mode → Bool
is_idle Idle = true
is_idle Off = false
is_idle Waiting = false
is_idle On = false
is_idle Fault = false

abbrev pub is_waiting : Mode → Bool
is_waiting Idle = false
is_waiting Off = false
is_waiting Waiting = true
is_waiting On = false
is_waiting Fault = false

abbrev pub is_on : Mode → Bool
is_on Idle = false
is_on Off = false
is_on Waiting = false
is_on On = true
is_on Fault = false

abbrev pub is_fault : Mode → Bool
is_fault Idle = false
is_fault Off = false
is_fault Waiting = false
is_fault On = false
is_fault Fault = true

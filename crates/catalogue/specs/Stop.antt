-- The emergency stop, arrow by arrow.
use Rattle.std.specs.Prelude.{Bool, ◌&&◌, not, cond}
use Rattle.block.specs.declared.code.Code.{Code}
use Rattle.block.specs.declared.code.Code.TheVariants as code
use Rattle.block.specs.declared.types.Input.{Input}
use Rattle.block.specs.declared.types.Mode.{Mode}
use Rattle.block.specs.declared.types.Mode.TheVariants as mode
use Rattle.block.specs.declared.types.Word.{Word}
use Rattle.block.specs.Meaning.{Meaning}
use Rattle.block.specs.Modes.{is_waiting}
use Rattle.block.specs.Runs.{rise}
use Rattle.catalogue.specs.declared.stop.Phase.{Phase}
use Rattle.catalogue.specs.declared.stop.Stop.{Stop}
use Rattle.catalogue.specs.declared.stop.StopState.{StopState}
use Rattle.catalogue.specs.declared.stop.StopState.TheVariants.{Idle, Init, FirstOff, FirstReady, FirstFault, On, AgainOff, AgainReady, AgainFault}
use Rattle.catalogue.specs.declared.stop.settings.StopSettings.{StopSettings}

-- the ready states wait; the off states and init are off
abbrev pub stop_mode : StopState → Mode
stop_mode Idle = mode.Idle
stop_mode Init = mode.Off
stop_mode FirstOff = mode.Off
stop_mode FirstReady = mode.Waiting
stop_mode FirstFault = mode.Fault
stop_mode On = mode.On
stop_mode AgainOff = mode.Off
stop_mode AgainReady = mode.Waiting
stop_mode AgainFault = mode.Fault

abbrev pub stop_code : StopState → Code
stop_code Idle = code.H0000
stop_code Init = code.H8001
stop_code FirstOff = code.H8802
stop_code FirstReady = code.H8402
stop_code FirstFault = code.HC001
stop_code On = code.H8000
stop_code AgainOff = code.H8804
stop_code AgainReady = code.H8404
stop_code AgainFault = code.HC011

-- the word is clear while pin 0 is on
abbrev pub stop_clear : Word → Bool
stop_clear w = w.pin0

-- the states of the phase before the stop has been on, and of the one after
abbrev pub first : Phase
first = record { off = FirstOff; ready = FirstReady; fault = FirstFault }

abbrev pub again : Phase
again = record { off = AgainOff; ready = AgainReady; fault = AgainFault }

-- from off: a reset that is on too early is a fault unless the stop comes on by itself; else a clear word makes it on or ready; else it is off
abbrev pub off_next : Phase → Bool → Input → StopState
off_next p by_itself i = cond (not by_itself && i.now) p.fault (cond (stop_clear i.word) (cond by_itself On p.ready) p.off)

-- from ready: off without a clear word, on at a rise
abbrev pub ready_next : Phase → Input → StopState
ready_next p i = cond (stop_clear i.word) (cond (rise i.now i.before) On p.ready) p.off

-- from a fault, which leaves once the reset is off
abbrev pub fault_next : Phase → Input → StopState
fault_next p i = cond i.now p.fault p.off

-- an active step; start says whether the stop comes on by itself in the first phase, auto in the other
abbrev pub stop_next : StopSettings → StopState → Input → StopState
stop_next s Idle i = Init
stop_next s Init i = off_next first s.start i
stop_next s FirstOff i = off_next first s.start i
stop_next s FirstReady i = ready_next first i
stop_next s FirstFault i = fault_next first i
-- the stop drops without a clear word
stop_next s On i = cond (stop_clear i.word) On AgainOff
stop_next s AgainOff i = off_next again s.auto i
stop_next s AgainReady i = ready_next again i
stop_next s AgainFault i = fault_next again i

-- latched: neither start nor auto; it releases in waiting, at a rise
abbrev pub estop : Meaning Stop
estop = record {
  mode = λ b. stop_mode b.state;
  clear = λ b w. stop_clear w;
  latched = λ b. not b.settings.start && not b.settings.auto;
  releases = λ b i. is_waiting (stop_mode b.state) && rise i.now i.before;
  next = λ b i. record { settings = b.settings; state = cond i.active (stop_next b.settings b.state i) Idle };
  made = λ s. record { settings = record { start = s.settings.start; auto = s.settings.auto }; state = Idle };
  code = λ b. stop_code b.state;
  requests = λ b. is_waiting (stop_mode b.state);
}

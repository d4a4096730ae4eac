-- The gates AND and OR.
use Rattle.std.specs.Prelude.{Bool, false, ◌&&◌, ◌||◌, cond}
use Rattle.block.specs.declared.code.Code.{Code}
use Rattle.block.specs.declared.code.Code.TheVariants as code
use Rattle.block.specs.declared.types.Mode.{Mode}
use Rattle.block.specs.declared.types.Mode.TheVariants as mode
use Rattle.block.specs.declared.types.Word.{Word}
use Rattle.block.specs.Meaning.{Meaning}
use Rattle.block.specs.Modes.{is_waiting}
use Rattle.catalogue.specs.declared.gate.Gate.{Gate}
use Rattle.catalogue.specs.declared.gate.GateState.{GateState}
use Rattle.catalogue.specs.declared.gate.GateState.TheVariants.{Idle, Off, On}

-- a word is clear for an AND if all four pins are on
abbrev pub all_pins : Word → Bool
all_pins w = w.pin0 && (w.pin1 && (w.pin2 && w.pin3))

-- and for an OR if some pin is
abbrev pub any_pin : Word → Bool
any_pin w = w.pin0 || (w.pin1 || (w.pin2 || w.pin3))

abbrev pub gate_mode : GateState → Mode
gate_mode Idle = mode.Idle
gate_mode Off = mode.Off
gate_mode On = mode.On

abbrev pub gate_code : GateState → Code
gate_code Idle = code.H0000
gate_code Off = code.H8802
gate_code On = code.H8000

-- an active step ends on if clear, else off; an inactive one ends idle
abbrev pub gate_next : Bool → Bool → GateState
gate_next active clear = cond active (cond clear On Off) Idle

-- a gate by its test: never latched, never released
abbrev pub gate : {T : Type 0} → (Word → Bool) → Meaning (Gate T)
gate passed = record {
  mode = λ g. gate_mode g.state;
  clear = λ g w. passed w;
  latched = λ g. false;
  releases = λ g i. false;
  next = λ g i. record { state = gate_next i.active (passed i.word); test = g.test };
  made = λ s. record { state = Idle; test = record {} };
  code = λ g. gate_code g.state;
  requests = λ g. is_waiting (gate_mode g.state);
}

-- The gates, the emergency stop and the catalogue over them keep the laws and are rising blocks.
use Rattle.std.proofs.Common.{rules}
use Rattle.std.specs.Prelude.{Bool}
use Rattle.block.specs.declared.types.Word.{Word}
use Rattle.block.specs.Laws.{StepLaws}
use Rattle.block.specs.Rises.{Rises}
use Rattle.catalogue.specs.Catalogue.{and_gate, or_gate, catalogue}
use Rattle.catalogue.specs.Gate.{gate, all_pins, any_pin}
use Rattle.catalogue.specs.Stop.{estop}
use Rattle.catalogue.specs.Dispatch.{any_kind_steps, any_kind_rises}

module _ {T : Type 0} (passed : Word → Bool) where
  pub gate_steps : StepLaws (gate {T = T} passed)
  gate_steps = search rules

  pub gate_rises : Rises (gate {T = T} passed)
  gate_rises = search rules

pub stop_steps : StepLaws estop
stop_steps = search rules

pub stop_rises : Rises estop
stop_rises = search rules

-- the catalogue, from its kinds
pub catalogue_steps : StepLaws catalogue
catalogue_steps = any_kind_steps and_gate or_gate estop (gate_steps all_pins) (gate_steps any_pin) stop_steps

pub catalogue_rises : Rises catalogue
catalogue_rises = any_kind_rises and_gate or_gate estop (gate_rises all_pins) (gate_rises any_pin) stop_rises

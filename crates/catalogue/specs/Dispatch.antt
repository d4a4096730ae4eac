-- A block of any kind keeps the laws and is rising, from what its kinds keep.
use Rattle.std.specs.Prelude.{◌≡◌}
use Rattle.block.specs.declared.types.Input.{Input}
use Rattle.block.specs.declared.types.Mode.TheVariants.{Waiting}
use Rattle.block.specs.declared.types.Word.{Word}
use Rattle.block.specs.Laws.{StepLaws, ReleasesWaitingAtAnEdge}
use Rattle.block.specs.Meaning.{Meaning}
use Rattle.block.specs.Rises.{Rises}
use Rattle.block.specs.Runs.{rise}
use Rattle.catalogue.specs.declared.Catalogue.{Catalogue}
use Rattle.catalogue.specs.declared.Catalogue.TheVariants.{And, Or, Estop}
use Rattle.catalogue.specs.declared.gate.AllPins.{AllPins}
use Rattle.catalogue.specs.declared.gate.AnyPin.{AnyPin}
use Rattle.catalogue.specs.declared.gate.Gate.{Gate}
use Rattle.catalogue.specs.declared.stop.Stop.{Stop}
use Rattle.catalogue.specs.Catalogue.{any_kind}
use Rattle.std.proofs.Common.{rules}

module _ (a : Meaning (Gate AllPins)) (o : Meaning (Gate AnyPin)) (e : Meaning Stop) where
  module _ (la : StepLaws a) (lo : StepLaws o) (le : StepLaws e) where
    any_edge : ReleasesWaitingAtAnEdge (any_kind a o e)
    any_edge (And g) = la.edge g
    any_edge (Or g) = lo.edge g
    any_edge (Estop s) = le.edge s

    any_clear : (b : Catalogue) (i : Input) (w : Word) → (any_kind a o e).clear ((any_kind a o e).next b i) w ≡ (any_kind a o e).clear b w
    any_clear (And g) = la.stay.clear g
    any_clear (Or g) = lo.stay.clear g
    any_clear (Estop s) = le.stay.clear s

    pub any_kind_steps : StepLaws (any_kind a o e)
    any_kind_steps = record {
      made_idle = λ s. let x = la.made_idle s in let y = lo.made_idle s in let z = le.made_idle s in search rules;
      inactive = search (rules, la.inactive, lo.inactive, le.inactive);
      active = search (rules, la.active, lo.active, le.active);
      was_clear = search (rules, la.was_clear, lo.was_clear, le.was_clear);
      keeps_on = search (rules, la.keeps_on, lo.keeps_on, le.keeps_on);
      released = search (rules, la.released, lo.released, le.released);
      edge = any_edge;
      fault = search (rules, la.fault, lo.fault, le.fault);
      ends_off = search (rules, la.ends_off, lo.ends_off, le.ends_off);
      ends_waiting = search (rules, la.ends_waiting, lo.ends_waiting, le.ends_waiting);
      no_fault = search (rules, la.no_fault, lo.no_fault, le.no_fault);
      no_start = record {
        not_on = search (rules, la.no_start.not_on, lo.no_start.not_on, le.no_start.not_on);
        not_waiting = search (rules, la.no_start.not_waiting, lo.no_start.not_waiting, le.no_start.not_waiting);
      };
      stay = record {
        clear = any_clear;
        latched = search (rules, la.stay.latched, lo.stay.latched, le.stay.latched);
      };
    }

  module _ (ra : Rises a) (ro : Rises o) (re : Rises e) where
    any_rise : (b : Catalogue) (i : Input) → (any_kind a o e).mode b ≡ Waiting → (any_kind a o e).releases b i ≡ rise i.now i.before
    any_rise (And g) = ra.at_a_rise g
    any_rise (Or g) = ro.at_a_rise g
    any_rise (Estop s) = re.at_a_rise s

    pub any_kind_rises : Rises (any_kind a o e)
    any_kind_rises = record {
      at_a_rise = any_rise;
      else_waits = search (rules, ra.else_waits, ro.else_waits, re.else_waits);
      ends_off = search (rules, ra.ends_off, ro.ends_off, re.ends_off);
      ends_waiting = search (rules, ra.ends_waiting, ro.ends_waiting, re.ends_waiting);
      no_fault = search (rules, ra.no_fault, ro.no_fault, re.no_fault);
    }

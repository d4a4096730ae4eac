-- The catalogue: each block behaves as its kind.
use Rattle.block.specs.declared.types.Kind.{Kind}
use Rattle.block.specs.declared.types.Kind.TheVariants as kind
use Rattle.block.specs.Meaning.{Meaning}
use Rattle.catalogue.specs.declared.Catalogue.{Catalogue}
use Rattle.catalogue.specs.declared.Catalogue.TheVariants.{And, Or, Estop}
use Rattle.catalogue.specs.declared.gate.AllPins.{AllPins}
use Rattle.catalogue.specs.declared.gate.AnyPin.{AnyPin}
use Rattle.catalogue.specs.declared.gate.Gate.{Gate}
use Rattle.catalogue.specs.declared.stop.Stop.{Stop}
use Rattle.catalogue.specs.Gate.{gate, all_pins, any_pin}
use Rattle.catalogue.specs.Stop.{estop}

abbrev pub and_gate : Meaning (Gate AllPins)
and_gate = gate all_pins

abbrev pub or_gate : Meaning (Gate AnyPin)
or_gate = gate any_pin

-- what each kind gives
abbrev pub of_kind : {R : Type 0} → (Gate AllPins → R) → (Gate AnyPin → R) → (Stop → R) → Catalogue → R
of_kind and or stop (And g) = and g
of_kind and or stop (Or g) = or g
of_kind and or stop (Estop s) = stop s

abbrev pub for_kind : {R : Type 0} → R → R → R → Kind → R
for_kind and or stop kind.And = and
for_kind and or stop kind.Or = or
for_kind and or stop kind.Estop = stop

-- a block of any of the three kinds, by their meanings
abbrev pub any_kind : Meaning (Gate AllPins) → Meaning (Gate AnyPin) → Meaning Stop → Meaning Catalogue
any_kind a o e = record {
  mode = of_kind a.mode o.mode e.mode;
  clear = of_kind a.clear o.clear e.clear;
  latched = of_kind a.latched o.latched e.latched;
  releases = of_kind a.releases o.releases e.releases;
  next = of_kind (λ b i. And (a.next b i)) (λ b i. Or (o.next b i)) (λ b i. Estop (e.next b i));
  made = λ s. for_kind (And (a.made s)) (Or (o.made s)) (Estop (e.made s)) s.settings.kind;
  code = of_kind a.code o.code e.code;
  requests = of_kind a.requests o.requests e.requests;
}

abbrev pub catalogue : Meaning Catalogue
catalogue = any_kind and_gate or_gate estop

-- A loading that is accepted begins a history, and one that is refused goes on in it.
use Rattle.std.proofs.Common.{◌≡◌, ℕ, ◌<◌, true, false, eqb, List, [], length, Some, sym, refl, ap, ◌∙◌}
use Rattle.std.proofs.lemmas.Bool.{and_parts, eqb-true}
use Rattle.block.specs.Laws.{StepLaws}
use Rattle.block.specs.Meaning.{Meaning}
use Rattle.block.specs.Modes.{is_on}
use Rattle.sheet.specs.declared.wiring.Wiring.{Wiring}
use Rattle.sheet.specs.Wires.{listed}
use Rattle.station.specs.declared.station.Station.{Station}
use Rattle.station.specs.Calls.{Read, effect, sizes_allowed}
use Rattle.station.specs.Histories.{History, FollowsRules, Fits}
use Rattle.station.specs.Image.{all_ones, no_outputs, table_size, outputs_size}
use Rattle.station.specs.Loads.{Filled, LoadRefused}
use Rattle.station.specs.Scans.{at, on_in}
use Rattle.station.proofs.Fitting.{off_shows}
use Rattle.station.proofs.Leaving.{nothing_leaves}
use Rattle.station.proofs.Promises.{goes_on}

module _ {B : Type 0} (m : Meaning B) (laws : StepLaws m) where
  pub load_refused : (s : Station) (t : List B) (o : List ℕ) → LoadRefused m s s t t o o
  load_refused s t o = record {
    leaves = record { wiring = refl; last = refl; table = refl; outputs = refl };
    history = goes_on m laws Read s s t t o o (nothing_leaves m (effect Read) s t o refl);
  }

  pub load_begins : (w : Wiring) (s' : Station) (t t' : List B) (o o' : List ℕ) → sizes_allowed (length t) (length o) ≡ true → s'.wiring ≡ Some w → s'.last ≡ all_ones → Filled m w (at m t) (at m t') → length t' ≡ length t → o' ≡ no_outputs
      → (f : History → ℕ → B) → FollowsRules m w f → Fits m w f [] s' t' o'
  load_begins w s' t t' o o' sizes wiring last filled blocks outputs f rules =
      let full = and_parts (eqb (length t) table_size) (eqb (length o) outputs_size) sizes in
      let off : (k : ℕ) → k < length (listed w) → on_in m (f []) k ≡ false = λ k lt. ap is_on (ap m.mode (rules.made k lt) ∙ laws.made_idle _) in
      record {
        wiring = wiring;
        last = last;
        table_full = blocks ∙ eqb-true (length t) table_size full.0;
        table = λ k lt. filled.row k lt ∙ sym (rules.made k lt);
        outputs_full = ap length outputs;
        outputs = off_shows w (on_in m (f [])) off o' outputs;
      }

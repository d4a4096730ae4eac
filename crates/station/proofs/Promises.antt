-- What fits a history keeps the promises, and every call goes on.
use Rattle.std.proofs.Common.{ℕ, ltb, List, length, get_or, sym, ap, ◌∙◌, subst}
use Rattle.std.proofs.lemmas.Bool.{and_parts, ltb-true}
use Rattle.block.specs.Laws.{StepLaws}
use Rattle.block.specs.Meaning.{Meaning}
use Rattle.sheet.specs.declared.wiring.Wiring.{Wiring}
use Rattle.sheet.specs.Wires.{routed}
use Rattle.station.specs.declared.station.Station.{Station}
use Rattle.station.specs.Calls.{Call, Effect, effect}
use Rattle.station.specs.Histories.{History, FollowsRules, Fits}
use Rattle.station.specs.Promises.{Promised, GoesOn, PromisesKept}
use Rattle.station.specs.Scans.{on_in}
use Rattle.station.specs.Stations.{CallLeaves, LeavesAll}
use Rattle.station.proofs.Blocks.{fixed}
use Rattle.station.proofs.Fitting.{call_fits, left_fits}
use Rattle.station.proofs.Needed.{on_as_needed, is_on_on}
use Rattle.station.proofs.Releases.{on_by_release}
use Rattle.station.proofs.Wiring.{wiring_outs}

module _ {B : Type 0} (m : Meaning B) (laws : StepLaws m) where
  pub fits_promised : (w : Wiring) (f : History → ℕ → B) → FollowsRules m w f → (h : History) (s : Station) (t : List B) (o : List ℕ) → Fits m w f h s t o → Promised m w f h t o
  fits_promised w f rules h s t o fits = record {
    needed = λ i n u lt on lists small bit.
        let k = get_or (routed w) i 0 in
        let shown = and_parts (ltb i (length (routed w))) (on_in m (f h) k) (sym (fits.outputs i lt) ∙ on) in
        let within = wiring_outs w i (ltb-true i (length (routed w)) shown.0) in
        on_as_needed m laws w f rules lists.needs lists.rule h k u within small (is_on_on _ shown.1) (sym (lists.bits u small) ∙ bit);
    released = λ k lt latched.
        let same = fits.table k lt in
        let r = on_by_release m laws w f rules h k lt (ap m.latched (sym same) ∙ latched) in
        (λ on. r.0 (ap m.mode (sym same) ∙ on), λ stands. ap m.mode same ∙ r.1 stands);
  }

  pub goes_on : (c : Call) (s s' : Station) (t t' : List B) (o o' : List ℕ) → CallLeaves m (effect c) s s' t t' o o' → GoesOn m c s s' t t' o o'
  goes_on c s s' t t' o o' d = record {
    fits = λ w f rules h fits. call_fits m laws w f rules c h s s' t t' o o' fits d;
    promised = λ w f rules h fits. fits_promised w f rules _ s' t' o' (call_fits m laws w f rules c h s s' t t' o o' fits d);
    elsewhere = λ e w f rules h own bytes fits.
        let all : LeavesAll s s' t t' o o' = subst (λ (x : Effect). CallLeaves m x s s' t t' o o') e d in
        left_fits m laws w f rules c h s s' own own bytes bytes fits e all.wiring all.last;
  }

  pub promises_kept : (w : Wiring) → PromisesKept m w
  promises_kept w = record {
    fixed = fixed m w;
    needed = λ f rules. on_as_needed m laws w f rules;
    released = λ f rules. on_by_release m laws w f rules;
    shown = λ f rules h s t o fits. fits_promised w f rules h s t o fits;
  }

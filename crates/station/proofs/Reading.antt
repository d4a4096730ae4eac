-- What the reading calls answer.
use Rattle.std.proofs.Common.{◌≡◌, ℕ, ◌<◌, List, length, get_or, refl, ap, ◌∙◌, subst}
use Rattle.block.specs.Laws.{StepLaws}
use Rattle.block.specs.Meaning.{Meaning}
use Rattle.sheet.specs.declared.row.Row.{Row}
use Rattle.sheet.specs.Wires.{listed, routed}
use Rattle.station.specs.declared.station.Station.{Station}
use Rattle.station.specs.Calls.{Read, effect}
use Rattle.station.specs.Masks.{masked}
use Rattle.station.specs.Needs.{Needs, ListsNeeds, clear_in, made_clear}
use Rattle.station.specs.Reads.{Reads, NeedsTold}
use Rattle.station.specs.Scans.{at}
use Rattle.station.specs.Stations.{rows_in, outs_in, rows_of, outs_of}
use Rattle.station.specs.Wires.{Wired}
use Rattle.station.proofs.Leaving.{nothing_leaves}
use Rattle.station.proofs.Needed.{clear_stays}
use Rattle.station.proofs.Promises.{goes_on}
use Rattle.station.proofs.Rule.{one_list, mask_list, same_clear}

module _ {B : Type 0} (m : Meaning B) (laws : StepLaws m) (s : Station) (t : List B) where
  pub reads : Reads m s t
  reads o = goes_on m laws Read s s t t o o (nothing_leaves m (effect Read) s t o refl)

  pub needs_told : (masks : List ℕ) → Needs (clear_in m (at m t)) (rows_of s) (masked masks) → Wired (rows_of s) → (output : ℕ) → get_or (outs_of s) output 0 < length (rows_of s) → get_or masks (get_or (outs_of s) output 0) 0 < 18446744073709551616
      → NeedsTold m s t output (get_or masks (get_or (outs_of s) output 0) 0)
  needs_told masks rule wired output on_sheet small =
      let k = get_or (outs_of s) output 0 in
      let list = mask_list (clear_in m (at m t)) (rows_of s) masks rule k small in
      record {
        list = list;
        only = λ x other. one_list (clear_in m (at m t)) (rows_of s) wired k x (get_or masks k 0) on_sheet other list;
        always = λ w f rules h o fits.
            let rows : rows_of s ≡ listed w = ap rows_in fits.wiring in
            let outs : outs_of s ≡ routed w = ap outs_in fits.wiring in
            let here : ListsNeeds (clear_in m (at m t)) (listed w) k (get_or masks k 0) = subst (λ (r : List Row). ListsNeeds (clear_in m (at m t)) r k (get_or masks k 0)) rows list in
            let made = same_clear (clear_in m (at m t)) (made_clear m w) (listed w) (λ j lt v. ap (λ b. m.clear b v) (fits.table j lt) ∙ clear_stays m laws w f rules h j lt v) k (get_or masks k 0) here in
            subst (λ (r : List ℕ). ListsNeeds (made_clear m w) (listed w) (get_or r output 0) (get_or masks k 0)) outs made;
      }

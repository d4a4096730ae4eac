-- A row sees the earlier rows alone, so a scan in order is a scan.
use Rattle.std.proofs.Common.{◌≡◌, ℕ, ◌+◌, ◌<◌, ◌≤◌, Bool, true, ◌≢◌, List, length, take, set, sym, refl, ap, ◌∙◌, ⊎_elim, arith, get_or-set_other, get_or-set_same, get_or-take}
use Rattle.std.proofs.lemmas.Bool.{cases_eq, ltb-true}
use Rattle.block.specs.Meaning.{Meaning}
use Rattle.block.specs.Modes.{is_on}
use Rattle.sheet.specs.declared.row.Row.{Row}
use Rattle.sheet.specs.Wired.{source_wired}
use Rattle.values.specs.declared.source.Source.{Source}
use Rattle.values.specs.declared.source.Source.TheVariants as source
use Rattle.station.specs.Rows.{source_on, pin, input_of, row_at, blank_setup}
use Rattle.station.specs.Scans.{at, on_in, StepsRow, KeepsBlock}
use Rattle.station.specs.Wires.{Wired, WiredRow}

module _ (image : List ℕ) (ons ons' : ℕ → Bool) (k : ℕ) (same : (j : ℕ) → j < k → ons j ≡ ons' j) where
  source_local : (s : Source) → source_wired k s ≡ true → source_on image ons s ≡ source_on image ons' s
  source_local source.Zero w = refl
  source_local source.One w = refl
  source_local (source.Terminal t) w = refl
  source_local (source.Row j) w = same j (ltb-true j k w)

  pub input_local : (last : List ℕ) (elapsed : ℕ) (r : Row) → WiredRow k r → input_of image last elapsed ons r ≡ input_of image last elapsed ons' r
  input_local last elapsed r w =
      let a = source_local r.act w.act in
      let p0 = source_local (pin r 0) w.pin0 in
      let p1 = source_local (pin r 1) w.pin1 in
      let p2 = source_local (pin r 2) w.pin2 in
      let p3 = source_local (pin r 3) w.pin3 in
      cc

-- the blocks of the earlier rows serve a row as the whole table does
pub input_earlier : {B : Type 0} (m : Meaning B) (t : List B) (k : ℕ) (image last : List ℕ) (elapsed : ℕ) (r : Row) → WiredRow k r → input_of image last elapsed (on_in m (at m (take k t))) r ≡ input_of image last elapsed (on_in m (at m t)) r
input_earlier m t k image last elapsed r w =
    input_local image _ _ k (λ j lt. ap (λ b. is_on (m.mode b)) (get_or-take k t j (m.made blank_setup) lt)) last elapsed r w

-- one turn of the loop over the rows: the blocks below row n are stepped, and now row n
module _ {B : Type 0} (m : Meaning B) (rows : List Row) (image last : List ℕ) (elapsed : ℕ) (f : ℕ → B) (t : List B) (n : ℕ) (b : B)
    (wired : Wired rows) (on_sheet : n < length rows) (within : n < length t)
    (done : (j : ℕ) → j < n → StepsRow m rows image last elapsed f (at m t) j) (left : (j : ℕ) → n ≤ j → KeepsBlock f (at m t) j)
    (is : b ≡ m.next (at m t n) (input_of image last elapsed (on_in m (at m t)) (row_at rows n))) where
  other : (j : ℕ) → j ≢ n → at m (set t n b) j ≡ at m t j
  other j ne = get_or-set_other t n j b (m.made blank_setup) ne

  same_on : (k : ℕ) → k ≤ n → (j : ℕ) → j < k → on_in m (at m t) j ≡ on_in m (at m (set t n b)) j
  same_on k le j lt = ap (λ x. on_in m (λ (i : ℕ). x) j) (sym (other j (omega arith)))

  stepped_here : StepsRow m rows image last elapsed f (at m (set t n b)) n
  stepped_here =
      get_or-set_same t n b (m.made blank_setup) within
      ∙ is
      ∙ ap (λ x. m.next x (input_of image last elapsed (on_in m (at m t)) (row_at rows n))) (left n (omega arith))
      ∙ ap (m.next (f n)) (input_local image _ _ n (same_on n (omega arith)) last elapsed (row_at rows n) (wired n on_sheet))

  stepped_before : (j : ℕ) → j < n → StepsRow m rows image last elapsed f (at m (set t n b)) j
  stepped_before j lt =
      other j (omega arith)
      ∙ done j lt
      ∙ ap (m.next (f j)) (input_local image _ _ j (same_on j (omega arith)) last elapsed (row_at rows j) (wired j (omega arith)))

  pub scan_more : ((j : ℕ) → j < n + 1 → StepsRow m rows image last elapsed f (at m (set t n b)) j) × ((j : ℕ) → n + 1 ≤ j → KeepsBlock f (at m (set t n b)) j)
  scan_more = (
    (λ j lt. ⊎_elim (λ e. rw e stepped_here) (λ ne. stepped_before j (omega arith)) (cases_eq j n)),
    (λ j le. other j (omega arith) ∙ left j (omega arith)),
  )

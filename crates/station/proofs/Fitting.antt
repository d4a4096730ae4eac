-- A call that leaves what its effect says takes a station that fits a history to one that fits the longer history.
use Rattle.std.proofs.Math.Nat.{zero-div}
use Rattle.std.proofs.Common.{◌≡◌, ℕ, zero, suc, ◌/◌, ◌%◌, ◌^◌, ◌<◌, Bool, false, ◌&&◌, eqb, ltb, List, ◌∷◌, length, get_or, sym, refl, ap, ◌∙◌, subst, ⊎_elim, arith}
use Rattle.std.proofs.lemmas.Bool.{cases_lt, cases_Bool, ltb-true}
use Rattle.block.specs.Laws.{StepLaws}
use Rattle.block.specs.Meaning.{Meaning}
use Rattle.block.specs.Modes.{is_on}
use Rattle.sheet.specs.declared.wiring.Wiring.{Wiring}
use Rattle.sheet.specs.Wires.{listed, routed}
use Rattle.station.specs.declared.station.Station.{Station}
use Rattle.station.specs.Calls.{Call, Steps, Stops, Leaves, effect}
use Rattle.station.specs.Histories.{History, FollowsRules, Fits, image_after, remembered}
use Rattle.station.specs.Image.{bit_at, bit_of, no_outputs}
use Rattle.station.specs.Outputs.{output_on, Shows}
use Rattle.station.specs.Rows.{input_of, halt_input, row_at}
use Rattle.station.specs.Scans.{at, on_in, Scanned, Halted}
use Rattle.station.specs.Stations.{rows_in, outs_in, ScanLeaves, HaltLeaves, LeavesAll, CallLeaves}
use Rattle.station.proofs.Effects.{cases_effect}
use Rattle.station.proofs.Local.{input_local}
use Rattle.station.proofs.Wiring.{wiring_wired, wiring_outs}

-- outputs see the rows of the sheet alone
outputs_local : (w : Wiring) (ons ons' : ℕ → Bool) → ((k : ℕ) → k < length (listed w) → ons k ≡ ons' k) → (i : ℕ) → output_on (routed w) ons i ≡ output_on (routed w) ons' i
outputs_local w ons ons' same i =
    ⊎_elim
    (λ within. ap (λ b. ltb i (length (routed w)) && b) (same (get_or (routed w) i 0) (wiring_outs w i (ltb-true i (length (routed w)) within))))
    (λ past. ap (λ b. b && ons (get_or (routed w) i 0)) past ∙ sym (ap (λ b. b && ons' (get_or (routed w) i 0)) past))
    (cases_Bool (ltb i (length (routed w))))

-- no bit of cleared bytes is on
none_on : (i : ℕ) → i < 16 → bit_of no_outputs i ≡ false
none_on i lt =
    let zero_bit : (j : ℕ) → bit_at 0 j ≡ false = λ j. ap (λ x. eqb (x % 2) 1) (zero-div (2 ^ j)) in
    ⊎_elim
    (λ below. let q : i / 8 ≡ 0 = omega arith in ap (λ n. bit_at (get_or no_outputs n 0) (i % 8)) q ∙ zero_bit (i % 8))
    (λ above. let q : i / 8 ≡ 1 = omega arith in ap (λ n. bit_at (get_or no_outputs n 0) (i % 8)) q ∙ zero_bit (i % 8))
    (cases_lt i 8)

-- cleared bytes show rows none of which is on
pub off_shows : (w : Wiring) (ons : ℕ → Bool) → ((k : ℕ) → k < length (listed w) → ons k ≡ false) → (o : List ℕ) → o ≡ no_outputs → Shows (routed w) ons o
off_shows w ons off o e i lt = ap (λ x. bit_of x i) e ∙ none_on i lt ∙ sym (outputs_local w ons (λ k. false) off i ∙ none)
  where
    none : output_on (routed w) (λ k. false) i ≡ false
    none = ⊎_elim (λ a. ap (λ b. b && false) a) (λ a. ap (λ b. b && false) a) (cases_Bool (ltb i (length (routed w))))

module _ {B : Type 0} (m : Meaning B) (laws : StepLaws m) (w : Wiring) (f : History → ℕ → B) (rules : FollowsRules m w f) (c : Call) (h : History) where
  -- a scan in the table is the history's scan
  scan_same : (image : List ℕ) (elapsed : ℕ) → effect c ≡ Steps image elapsed → (g g' : ℕ → B) → Scanned m (listed w) image (remembered h) elapsed g g' → ((k : ℕ) → k < length (listed w) → g k ≡ f h k)
      → (n k : ℕ) → k < n → k < length (listed w) → g' k ≡ f (c ∷ h) k
  scan_same image elapsed e g g' done same zero k below lt = absurd (omega arith)
  scan_same image elapsed e g g' done same (suc n) k below lt =
      done.row k lt
      ∙ ap (λ b. m.next b (input_of image (remembered h) elapsed (on_in m g') (row_at (listed w) k))) (same k lt)
      ∙ ap (m.next (f h k)) (input_local image _ _ k (λ j l. ap (λ b. is_on (m.mode b)) (scan_same image elapsed e g g' done same n j (omega arith) (omega arith))) (remembered h) elapsed (row_at (listed w) k) (wiring_wired w k lt))
      ∙ sym (rules.stepped c h image elapsed e k lt)

  module _ (s s' : Station) (t t' : List B) (o o' : List ℕ) (fits : Fits m w f h s t o) where
    rows_are : rows_in s.wiring ≡ listed w
    rows_are = ap rows_in fits.wiring

    outs_are : outs_in s.wiring ≡ routed w
    outs_are = ap outs_in fits.wiring

    scan_fits : (image : List ℕ) (elapsed : ℕ) → effect c ≡ Steps image elapsed → ScanLeaves m image elapsed s s' t t' o o' → Fits m w f (c ∷ h) s' t' o'
    scan_fits image elapsed e d =
        let done : Scanned m (listed w) image (remembered h) elapsed (at m t) (at m t') = subst (λ l. Scanned m (listed w) image l elapsed (at m t) (at m t')) fits.last (subst (λ r. Scanned m r image s.last elapsed (at m t) (at m t')) rows_are d.table) in
        let same : (k : ℕ) → k < length (listed w) → at m t' k ≡ f (c ∷ h) k = λ k lt. scan_same image elapsed e (at m t) (at m t') done fits.table (suc k) k (omega arith) lt in
        record {
          wiring = d.wiring ∙ fits.wiring;
          last = d.last ∙ sym (ap (λ x. image_after x (remembered h)) e);
          table_full = d.blocks ∙ fits.table_full;
          table = same;
          outputs_full = d.bytes ∙ fits.outputs_full;
          outputs = λ i lt. subst (λ r. Shows r (on_in m (at m t')) o') outs_are d.outputs i lt ∙ outputs_local w _ _ (λ k l. ap (λ b. is_on (m.mode b)) (same k l)) i;
        }

    halt_fits : effect c ≡ Stops → HaltLeaves m s s' t t' o o' → Fits m w f (c ∷ h) s' t' o'
    halt_fits e d =
        let done : Halted m (listed w) (at m t) (at m t') = subst (λ r. Halted m r (at m t) (at m t')) rows_are d.table in
        let idle : (k : ℕ) → k < length (listed w) → is_on (m.mode (f (c ∷ h) k)) ≡ false = λ k lt. ap is_on (ap m.mode (rules.idled c h e k lt) ∙ laws.inactive (f h k) halt_input refl) in
        record {
          wiring = d.wiring ∙ fits.wiring;
          last = d.last ∙ sym (ap (λ x. image_after x (remembered h)) e);
          table_full = d.blocks ∙ fits.table_full;
          table = λ k lt. done.row k lt ∙ ap (λ b. m.next b halt_input) (fits.table k lt) ∙ sym (rules.idled c h e k lt);
          outputs_full = ap length d.outputs;
          outputs = off_shows w (on_in m (f (c ∷ h))) idle o' d.outputs;
        }

    -- a call without effect leaves what fits, whatever it was lent itself
    pub left_fits : effect c ≡ Leaves → s'.wiring ≡ s.wiring → s'.last ≡ s.last → Fits m w f (c ∷ h) s' t o
    left_fits e wiring last = record {
      wiring = wiring ∙ fits.wiring;
      last = last ∙ fits.last ∙ sym (ap (λ x. image_after x (remembered h)) e);
      table_full = fits.table_full;
      table = λ k lt. fits.table k lt ∙ sym (rules.kept c h e k lt);
      outputs_full = fits.outputs_full;
      outputs = λ i lt. fits.outputs i lt ∙ outputs_local w _ _ (λ k l. ap (λ b. is_on (m.mode b)) (sym (rules.kept c h e k l))) i;
    }

    pub call_fits : CallLeaves m (effect c) s s' t t' o o' → Fits m w f (c ∷ h) s' t' o'
    call_fits d =
        ⊎_elim
        (λ a. scan_fits a.image a.elapsed a.steps (subst (λ x. CallLeaves m x s s' t t' o o') a.steps d))
        (⊎_elim
        (λ e. halt_fits e (subst (λ x. CallLeaves m x s s' t t' o o') e d))
        (λ e.
        let all : LeavesAll s s' t t' o o' = subst (λ x. CallLeaves m x s s' t t' o o') e d in
        subst (λ y. Fits m w f (c ∷ h) s' t' y) (sym all.outputs) (subst (λ y. Fits m w f (c ∷ h) s' y o) (sym all.table) (left_fits e all.wiring all.last))))
        (cases_effect c)

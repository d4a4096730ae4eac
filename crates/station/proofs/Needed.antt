-- What a row that is on needs was on.
use Rattle.std.proofs.Common.{◌≡◌, ℕ, zero, suc, ◌<◌, Bool, true, false, List, [], ◌∷◌, length, sym, refl, ap, ◌∙◌, inl, ⊎_elim, arith}
use Rattle.std.proofs.lemmas.Bool.{both_ways, cases_Bool, eqb-true, ltb-true}
use Rattle.block.specs.declared.types.Mode.{Mode}
use Rattle.block.specs.declared.types.Mode.TheVariants.{Idle, Off, Waiting, On, Fault}
use Rattle.block.specs.declared.types.Word.{Word}
use Rattle.block.specs.Laws.{StepLaws}
use Rattle.block.specs.Meaning.{Meaning}
use Rattle.block.specs.Modes.{is_on}
use Rattle.sheet.specs.declared.wiring.Wiring.{Wiring}
use Rattle.sheet.specs.Wired.{source_wired}
use Rattle.sheet.specs.Wires.{listed}
use Rattle.values.specs.declared.source.Source.{Source}
use Rattle.values.specs.declared.source.Source.TheVariants as source
use Rattle.station.specs.Calls.{Call, Steps, effect}
use Rattle.station.specs.Histories.{History, FollowsRules, scanned_after, last_scanned}
use Rattle.station.specs.Image.{bit_of}
use Rattle.station.specs.Needs.{source_needs, Needs, made_clear, terminals, WasOn, OnAsNeeded}
use Rattle.station.specs.Releases.{step_of}
use Rattle.station.specs.Rows.{source_on, pin, row_at}
use Rattle.station.specs.Scans.{on_in}
use Rattle.station.proofs.Effects.{cases_effect}
use Rattle.station.proofs.Releases.{idle_not_on, on_not_stopped}
use Rattle.station.proofs.Wiring.{wiring_wired}

pub is_on_on : (x : Mode) → is_on x ≡ true → x ≡ On
is_on_on Idle e = absurd (both_ways _ refl e)
is_on_on Off e = absurd (both_ways _ refl e)
is_on_on Waiting e = absurd (both_ways _ refl e)
is_on_on On e = refl
is_on_on Fault e = absurd (both_ways _ refl e)

-- a source that needs a terminal which is off is off, if the earlier rows that need it are
source_off : (image : List ℕ) (t k : ℕ) (needs : ℕ → ℕ → Bool) (ons : ℕ → Bool) → bit_of image t ≡ false → ((j : ℕ) → j < k → needs j t ≡ true → ons j ≡ true → ⊥)
    → (s : Source) → source_wired k s ≡ true → source_needs needs t s ≡ true → source_on image ons s ≡ false
source_off image t k needs ons off earlier source.Zero w n = refl
source_off image t k needs ons off earlier source.One w n = absurd (both_ways _ refl n)
source_off image t k needs ons off earlier (source.Terminal i) w n = ap (bit_of image) (eqb-true i t n) ∙ off
source_off image t k needs ons off earlier (source.Row j) w n = ⊎_elim (λ e. absurd (earlier j (ltb-true j k w) n e)) (λ e. e) (cases_Bool (ons j))

module _ {B : Type 0} (m : Meaning B) (laws : StepLaws m) (w : Wiring) (f : History → ℕ → B) (rules : FollowsRules m w f) where
  -- a row's clear words are those of its block as it was made
  pub clear_stays : (h : History) (k : ℕ) → k < length (listed w) → (v : Word) → m.clear (f h k) v ≡ made_clear m w k v
  clear_stays [] k lt v = ap (λ b. m.clear b v) (rules.made k lt)
  clear_stays (c ∷ h) k lt v =
      ⊎_elim
      (λ s. ap (λ b. m.clear b v) (rules.stepped c h s.image s.elapsed s.steps k lt) ∙ laws.stay.clear _ _ v)
      (⊎_elim (λ e. ap (λ b. m.clear b v) (rules.idled c h e k lt) ∙ laws.stay.clear _ _ v) (λ e. ap (λ b. m.clear b v) (rules.kept c h e k lt)))
      (cases_effect c)
      ∙ clear_stays h k lt v

  module _ (needs : ℕ → ℕ → Bool) (rule : Needs (made_clear m w) (listed w) needs) where
    -- no row that needs a terminal which an accepted scan finds off is on after it
    off_without : (c : Call) (h : History) (image : List ℕ) (elapsed t : ℕ) → effect c ≡ Steps image elapsed → t < terminals → bit_of image t ≡ false
        → (n k : ℕ) → k < n → k < length (listed w) → needs k t ≡ true → m.mode (f (c ∷ h) k) ≡ On → ⊥
    off_without c h image elapsed t e small off zero k below lt needed on = absurd (omega arith)
    off_without c h image elapsed t e small off (suc n) k below lt needed on =
        let i = step_of m w f k image elapsed c h in
        let on' : m.mode (m.next (f h k) i) ≡ On = ap m.mode (sym (rules.stepped c h image elapsed e k lt)) ∙ on in
        let clear : made_clear m w k i.word ≡ true = sym (clear_stays h k lt i.word) ∙ laws.was_clear (f h k) i (inl on') in
        let so = source_off image t k needs (on_in m (f (c ∷ h))) off (λ j l need up. off_without c h image elapsed t e small off n j (omega arith) (omega arith) need (is_on_on _ up)) in
        let wired = wiring_wired w k lt in
        let r = row_at (listed w) k in
        ⊎_elim
        (λ a. idle_not_on _ (laws.inactive (f h k) i (so r.act wired.act a)) on')
        (λ none. none i.word (record { pin0 = so (pin r 0) wired.pin0; pin1 = so (pin r 1) wired.pin1; pin2 = so (pin r 2) wired.pin2; pin3 = so (pin r 3) wired.pin3 }) clear)
        ((rule k t lt small).0 needed)

    was_on : (h : History) (k t : ℕ) → k < length (listed w) → t < terminals → m.mode (f h k) ≡ On → needs k t ≡ true → WasOn h t
    was_on [] k t lt small on needed = absurd (idle_not_on _ (ap m.mode (rules.made k lt) ∙ laws.made_idle _) on)
    was_on (c ∷ h) k t lt small on needed =
        ⊎_elim
        (λ s. record {
          image = s.image;
          scanned = ap (λ x. scanned_after x (last_scanned h)) s.steps;
          on = ⊎_elim (λ up. up) (λ off. absurd (off_without c h s.image s.elapsed t s.steps small off (suc k) k (omega arith) lt needed on)) (cases_Bool (bit_of s.image t));
        })
        (⊎_elim
        (λ e. absurd (on_not_stopped m laws w f rules k lt c h on e))
        (λ e.
        let was = was_on h k t lt small (ap m.mode (sym (rules.kept c h e k lt)) ∙ on) needed in
        record { image = was.image; scanned = ap (λ x. scanned_after x (last_scanned h)) e ∙ was.scanned; on = was.on }))
        (cases_effect c)

pub on_as_needed : {B : Type 0} (m : Meaning B) → StepLaws m → (w : Wiring) (f : History → ℕ → B) → FollowsRules m w f → OnAsNeeded m w f
on_as_needed m laws w f rules needs rule h k t lt small on needed = was_on m laws w f rules needs rule h k t lt small on needed

-- A latched row is on if and only if a release of it stands.
use Rattle.std.proofs.Common.{◌≡◌, ℕ, zero, suc, ◌<◌, true, ◌⊎◌, [], ◌∷◌, length, sym, refl, ap, ◌∙◌, inl, inr, ⊎_elim, arith}
use Rattle.std.proofs.lemmas.Bool.{both_ways, cases_Bool}
use Rattle.block.specs.declared.types.Mode.{Mode}
use Rattle.block.specs.declared.types.Mode.TheVariants.{Idle, Off, Waiting, On, Fault}
use Rattle.block.specs.Laws.{StepLaws}
use Rattle.block.specs.Meaning.{Meaning}
use Rattle.sheet.specs.declared.wiring.Wiring.{Wiring}
use Rattle.sheet.specs.Wires.{listed}
use Rattle.station.specs.Calls.{Call, Stops, effect}
use Rattle.station.specs.Histories.{History, FollowsRules}
use Rattle.station.specs.Releases.{step_of, ReleasedBy, WithdrawnBy, AtCall, StandsReleased, OnByRelease}
use Rattle.station.specs.Rows.{halt_input}
use Rattle.station.proofs.Effects.{Accepted, cases_effect}

pub idle_not_on : (x : Mode) → x ≡ Idle → x ≡ On → ⊥
idle_not_on x p q = let z : ◌≡◌ {A = ℕ} 0 1 = cc in omega arith

module _ {B : Type 0} (m : Meaning B) (laws : StepLaws m) (w : Wiring) (f : History → ℕ → B) (rules : FollowsRules m w f) (k : ℕ) (lt : k < length (listed w)) where
  latched_stays : (c : Call) (h : History) → m.latched (f (c ∷ h) k) ≡ m.latched (f h k)
  latched_stays c h =
      ⊎_elim
      (λ s. ap m.latched (rules.stepped c h s.image s.elapsed s.steps k lt) ∙ laws.stay.latched _ _)
      (⊎_elim (λ e. ap m.latched (rules.idled c h e k lt) ∙ laws.stay.latched _ _) (λ e. ap m.latched (rules.kept c h e k lt)))
      (cases_effect c)

  pub on_not_stopped : (c : Call) (h : History) → m.mode (f (c ∷ h) k) ≡ On → effect c ≡ Stops → ⊥
  on_not_stopped c h on e = idle_not_on _ (ap m.mode (rules.idled c h e k lt) ∙ laws.inactive (f h k) halt_input refl) on

  -- a call after which the row is on withdraws nothing
  on_not_withdrawn : (c : Call) (h : History) → m.mode (f (c ∷ h) k) ≡ On → WithdrawnBy m w f k c h → ⊥
  on_not_withdrawn c h on =
      ⊎_elim
      (λ found.
      let e = rules.stepped c h found.image found.elapsed found.accepted k lt in
      ⊎_elim
      (λ off. idle_not_on _ (ap m.mode e ∙ laws.inactive (f h k) _ off) on)
      (λ off. both_ways _ off (laws.was_clear (f h k) _ (inl (ap m.mode (sym e) ∙ on))))
      found.off)
      (on_not_stopped c h on)

  -- a call after which a latched row is on released it, or found it on and withdrew nothing
  released_or_was_on : (c : Call) (h : History) → m.latched (f h k) ≡ true → m.mode (f (c ∷ h) k) ≡ On → ReleasedBy m w f k c h ⊎ ((m.mode (f h k) ≡ On) × (WithdrawnBy m w f k c h → ⊥))
  released_or_was_on c h latched on =
      ⊎_elim
      (λ s. go s (m.mode (f h k)) refl)
      (⊎_elim (λ e. absurd (on_not_stopped c h on e)) (λ e. inr (ap m.mode (sym (rules.kept c h e k lt)) ∙ on, on_not_withdrawn c h on)))
      (cases_effect c)
    where
      after : (s : Accepted c) → m.mode (m.next (f h k) (step_of m w f k s.image s.elapsed c h)) ≡ On
      after s = ap m.mode (sym (rules.stepped c h s.image s.elapsed s.steps k lt)) ∙ on

      go : Accepted c → (x : Mode) → m.mode (f h k) ≡ x → ReleasedBy m w f k c h ⊎ ((m.mode (f h k) ≡ On) × (WithdrawnBy m w f k c h → ⊥))
      go s Idle p = absurd (laws.no_start.not_on _ _ latched (inl p) (after s))
      go s Off p = absurd (laws.no_start.not_on _ _ latched (inr p) (after s))
      go s Fault p = absurd (laws.fault _ _ p (after s))
      go s On p = inr (p, on_not_withdrawn c h on)
      go s Waiting p =
          let by = (laws.released _ _ p).0 (after s) in
          inl (record { image = s.image; elapsed = s.elapsed; accepted = s.steps; waited = p; active = by.0; clear = by.1; releases = by.2 })

  released_on : (c : Call) (h : History) → ReleasedBy m w f k c h → m.mode (f (c ∷ h) k) ≡ On
  released_on c h r =
      ap m.mode (rules.stepped c h r.image r.elapsed r.accepted k lt) ∙ (laws.released _ _ r.waited).1 (r.active, r.clear, r.releases)

  stays_on : (c : Call) (h : History) → m.mode (f h k) ≡ On → (WithdrawnBy m w f k c h → ⊥) → m.mode (f (c ∷ h) k) ≡ On
  stays_on c h on kept =
      ⊎_elim
      (λ s.
      let i = step_of m w f k s.image s.elapsed c h in
      ⊎_elim
      (λ active.
      ⊎_elim
      (λ clear. ap m.mode (rules.stepped c h s.image s.elapsed s.steps k lt) ∙ laws.keeps_on _ _ active clear on)
      (λ off. absurd (kept (inl (record { image = s.image; elapsed = s.elapsed; accepted = s.steps; off = inr off }))))
      (cases_Bool (m.clear (f h k) i.word)))
      (λ off. absurd (kept (inl (record { image = s.image; elapsed = s.elapsed; accepted = s.steps; off = inl off }))))
      (cases_Bool i.active))
      (⊎_elim (λ e. absurd (kept (inr e))) (λ e. ap m.mode (rules.kept c h e k lt) ∙ on))
      (cases_effect c)

  none_later : (c : Call) (h : History) (n : ℕ) → (WithdrawnBy m w f k c h → ⊥) → ((j : ℕ) → j < n → AtCall (WithdrawnBy m w f k) h j → ⊥) → (j : ℕ) → j < suc n → AtCall (WithdrawnBy m w f k) (c ∷ h) j → ⊥
  none_later c h n here rest zero l by = here by
  none_later c h n here rest (suc j) l by = rest j (omega arith) by

  on_stands : (h : History) → m.latched (f h k) ≡ true → m.mode (f h k) ≡ On → StandsReleased m w f k h
  on_stands [] latched on = absurd (idle_not_on _ (ap m.mode (rules.made k lt) ∙ laws.made_idle _) on)
  on_stands (c ∷ h) latched on =
      let was = sym (latched_stays c h) ∙ latched in
      ⊎_elim
      (λ r. record { later = 0; released = r; not_withdrawn = λ j l by. absurd (omega arith) })
      (λ o.
      let since = on_stands h was o.0 in
      record { later = suc since.later; released = since.released; not_withdrawn = none_later c h since.later o.1 since.not_withdrawn })
      (released_or_was_on c h was on)

  stands_on : (h : History) (n : ℕ) → AtCall (ReleasedBy m w f k) h n → ((j : ℕ) → j < n → AtCall (WithdrawnBy m w f k) h j → ⊥) → m.mode (f h k) ≡ On
  stands_on [] n r kept = absurd r
  stands_on (c ∷ h) zero r kept = released_on c h r
  stands_on (c ∷ h) (suc n) r kept = stays_on c h (stands_on h n r (λ j l by. kept (suc j) (omega arith) by)) (kept 0 (omega arith))

pub on_by_release : {B : Type 0} (m : Meaning B) → StepLaws m → (w : Wiring) (f : History → ℕ → B) → FollowsRules m w f → OnByRelease m w f
on_by_release m laws w f rules h k lt latched = (on_stands m laws w f rules k lt h latched, λ s. stands_on m laws w f rules k lt h s.later s.released s.not_withdrawn)

-- Each history fixes one block for each row.
use Rattle.std.proofs.Common.{◌≡◌, ℕ, zero, suc, ◌<◌, cond, eqb, List, [], ◌∷◌, length, sym, refl, ap, ◌∙◌, ⊎_elim, arith}
use Rattle.std.proofs.lemmas.Bool.{cases_eq, eq-eqb, ne_eqb, cond-true, cond-false}
use Rattle.block.specs.Meaning.{Meaning}
use Rattle.block.specs.Modes.{is_on}
use Rattle.sheet.specs.declared.row.Row.{Row}
use Rattle.sheet.specs.declared.wiring.Wiring.{Wiring}
use Rattle.sheet.specs.Wires.{listed}
use Rattle.station.specs.Calls.{Call, Effect, Steps, Stops, Leaves, effect}
use Rattle.station.specs.Histories.{History, remembered, FollowsRules, Fixed}
use Rattle.station.specs.Rows.{input_of, halt_input, setup_of, row_at}
use Rattle.station.specs.Scans.{on_in, StepsRow}
use Rattle.station.specs.Wires.{Wired}
use Rattle.station.proofs.Effects.{cases_effect}
use Rattle.station.proofs.Local.{input_local}
use Rattle.station.proofs.Wiring.{wiring_wired}

-- the blocks with the first n rows stepped in order
module _ {B : Type 0} (m : Meaning B) (rows : List Row) (image last : List ℕ) (elapsed : ℕ) (f : ℕ → B) where
  pass : ℕ → ℕ → B
  pass zero k = f k
  pass (suc n) k = cond (eqb k n) (m.next (f k) (input_of image last elapsed (on_in m (pass n)) (row_at rows k))) (pass n k)

  pass_row : (n k : ℕ) → k < n → pass n k ≡ m.next (f k) (input_of image last elapsed (on_in m (pass k)) (row_at rows k))
  unfolding pass
  pass_row zero k h = absurd (omega arith)
  pass_row (suc n) k h =
      ⊎_elim
      (λ e. cond-true (eqb k n) _ _ (eq-eqb k n e) ∙ ap (λ x. m.next (f k) (input_of image last elapsed (on_in m (pass x)) (row_at rows k))) (sym e))
      (λ e. cond-false (eqb k n) _ _ (ne_eqb k n e) ∙ pass_row n k (omega arith))
      (cases_eq k n)

  pass_steps : Wired rows → (k : ℕ) → k < length rows → StepsRow m rows image last elapsed f (pass (length rows)) k
  pass_steps wired k h =
      pass_row (length rows) k h
      ∙ ap (m.next (f k)) (input_local image _ _ k (λ j lt. ap (λ b. is_on (m.mode b)) (pass_row k j lt ∙ sym (pass_row (length rows) j (omega arith)))) last elapsed (row_at rows k) (wired k h))

module _ {B : Type 0} (m : Meaning B) (w : Wiring) where
  abbrev after : Effect → List ℕ → (ℕ → B) → ℕ → B
  after (Steps image elapsed) last f = pass m (listed w) image last elapsed f (length (listed w))
  after Stops last f = λ k. m.next (f k) halt_input
  after Leaves last f = f

  abbrev blocks : History → ℕ → B
  blocks [] = λ k. m.made (setup_of w.times (row_at (listed w) k))
  blocks (c ∷ h) = after (effect c) (remembered h) (blocks h)

  blocks_step : (x : Effect) (last : List ℕ) (f : ℕ → B) (image : List ℕ) (elapsed : ℕ) → x ≡ Steps image elapsed → (k : ℕ) → k < length (listed w) → StepsRow m (listed w) image last elapsed f (after x last f) k
  blocks_step x last f image elapsed e k lt = rw e (pass_steps m (listed w) image last elapsed f (wiring_wired w) k lt)

  blocks_follow : FollowsRules m w blocks
  blocks_follow = record {
    made = λ k lt. refl;
    stepped = λ c h image elapsed e k lt. blocks_step (effect c) (remembered h) (blocks h) image elapsed e k lt;
    idled = λ c h e k lt. ap (λ x. after x (remembered h) (blocks h) k) e;
    kept = λ c h e k lt. ap (λ x. after x (remembered h) (blocks h) k) e;
  }

  module _ (f : History → ℕ → B) (rules : FollowsRules m w f) where
    -- two scans from the same blocks are one
    same_scan : (c : Call) (h : History) (image : List ℕ) (elapsed : ℕ) → effect c ≡ Steps image elapsed → ((k : ℕ) → k < length (listed w) → f h k ≡ blocks h k) → (n k : ℕ) → k < n → k < length (listed w) → f (c ∷ h) k ≡ blocks (c ∷ h) k
    same_scan c h image elapsed e same zero k below lt = absurd (omega arith)
    same_scan c h image elapsed e same (suc n) k below lt =
        rules.stepped c h image elapsed e k lt
        ∙ ap (λ b. m.next b (input_of image (remembered h) elapsed (on_in m (f (c ∷ h))) (row_at (listed w) k))) (same k lt)
        ∙ ap (m.next (blocks h k)) (input_local image _ _ k (λ j l. ap (λ b. is_on (m.mode b)) (same_scan c h image elapsed e same n j (omega arith) (omega arith))) (remembered h) elapsed (row_at (listed w) k) (wiring_wired w k lt))
        ∙ sym (blocks_follow.stepped c h image elapsed e k lt)

    only : (h : History) (k : ℕ) → k < length (listed w) → f h k ≡ blocks h k
    only [] k lt = rules.made k lt
    only (c ∷ h) k lt =
        ⊎_elim
        (λ s. same_scan c h s.image s.elapsed s.steps (only h) (suc k) k (omega arith) lt)
        (⊎_elim
        (λ e. rules.idled c h e k lt ∙ ap (λ b. m.next b halt_input) (only h k lt) ∙ sym (blocks_follow.idled c h e k lt))
        (λ e. rules.kept c h e k lt ∙ only h k lt ∙ sym (blocks_follow.kept c h e k lt)))
        (cases_effect c)

  pub fixed : Fixed m w
  fixed = record { blocks = blocks; follow = blocks_follow; only = only }

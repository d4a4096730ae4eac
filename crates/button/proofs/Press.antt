-- One press brings a waiting block on: off, on, on after min, off.
use Rattle.std.proofs.Common.{rules, arith, ◌≡◌, refl, ap, ◌∙◌, true, false, ◌&&◌, [], ◌∷◌, ℕ, ◌≤◌, lit<}
use Rattle.block.specs.declared.types.Input.{Input}
use Rattle.block.specs.declared.types.Mode.{Mode}
use Rattle.block.specs.declared.types.Mode.TheVariants.{Waiting, On}
use Rattle.block.specs.declared.types.Word.{Word}
use Rattle.block.specs.Laws.{StepLaws, WaitingCanComeOn}
use Rattle.block.specs.Meaning.{Meaning}
use Rattle.block.specs.Rises.{Rises}
use Rattle.block.specs.Runs.{ResetStep, with_reset}
use Rattle.reset.specs.declared.fields.ButtonFields.{ButtonFields}
use Rattle.reset.specs.declared.fields.ButtonState.{ButtonState}
use Rattle.reset.specs.declared.fields.ButtonState.TheVariants.{WaitForRise, WaitForFall, Pulse}
use Rattle.reset.specs.Limits.{read_back}
use Rattle.reset.specs.Machine.{entering, lasting, is_pulse}
use Rattle.reset.proofs.Facts.{read_allowed, read_stepped}
use Rattle.button.specs.Button.{button_input, fields_next, inner_input, is_in_error, buttoned}
use Rattle.button.specs.Modes.{waiting_in, on_out}

abbrev off : ResetStep
off = record { now = false; elapsed = 0 }

abbrev on_after : ℕ → ResetStep
on_after n = record { now = true; elapsed = n }

-- limits of the times that are read
min_short : (f : ButtonFields) → (read_back f).min ≤ 60000
min_short f = let h = read_allowed f in search rules

min_max : (f : ButtonFields) → (read_back f).min ≤ (read_back f).max
min_max f = let h = read_allowed f in search rules

-- fields that a step has put are read as they were put
read_entering : (f : ButtonFields) (s : ButtonState) → read_back (entering (read_back f) s) ≡ entering (read_back f) s
read_entering f s = let h = read_allowed f in search rules

read_lasting : (f : ButtonFields) → read_back (lasting (entering (read_back f) WaitForFall) (read_back f).min) ≡ lasting (entering (read_back f) WaitForFall) (read_back f).min
read_lasting f = let h = read_allowed f in let l = min_max f in search rules

-- fields that wait for a rise, with the times of f
record Ready (f g : ButtonFields) : Type 0 where
  state : (read_back g).state ≡ WaitForRise
  min : (read_back g).min ≡ (read_back f).min
  max : (read_back g).max ≡ (read_back f).max

-- the four steps of the button
module _ (f : ButtonFields) (w : Word) (m : Mode) (waits : m ≡ Waiting) where
  made_ready : is_in_error f ≡ false → Ready f (fields_next m f (with_reset w false off))
  made_ready e =
      let back = read_stepped f (button_input m (with_reset w false off)) in
      record { state = ap (λ (x : ButtonFields). x.state) back ∙ search rules; min = ap (λ (x : ButtonFields). x.min) back ∙ search rules; max = ap (λ (x : ButtonFields). x.max) back ∙ search rules }

  made_pressed : (g : ButtonFields) → Ready f g → fields_next m g (with_reset w false (on_after 0)) ≡ entering (read_back f) WaitForFall
  made_pressed g r = let s = r.state in let l = r.min in let h = r.max in search rules

  made_held : (g : ButtonFields) → g ≡ entering (read_back f) WaitForFall → fields_next m g (with_reset w true (on_after (read_back f).min)) ≡ lasting (entering (read_back f) WaitForFall) (read_back f).min
  made_held g e = let r = ap read_back e ∙ read_entering f WaitForFall in let l = min_max f in search rules

  made_pulse : (g : ButtonFields) → g ≡ lasting (entering (read_back f) WaitForFall) (read_back f).min → fields_next m g (with_reset w true off) ≡ entering (read_back f) Pulse
  made_pulse g e = let r = ap read_back e ∙ read_lasting f in let l = min_max f in search rules

module _ {B : Type 0} (m : Meaning B) (law : StepLaws m) (rising : Rises m) where
  -- with no pulse the inner block goes on waiting
  goes_on_waiting : (b : B) (g : ButtonFields) (i : Input) → m.mode b ≡ Waiting → i.active ≡ true → m.clear b i.word ≡ true → is_pulse g.state ≡ false → m.mode (m.next b (inner_input g i)) ≡ Waiting
  goes_on_waiting b g i waits active clear mute = rising.else_waits b (inner_input g i) waits active clear (rising.at_a_rise b (inner_input g i) waits ∙ ap (λ p. p && true) mute)

  -- at the pulse it comes on
  comes_on_at : (b : B) (g : ButtonFields) (i : Input) → m.mode b ≡ Waiting → i.active ≡ true → m.clear b i.word ≡ true → is_pulse g.state ≡ true → m.mode (m.next b (inner_input g i)) ≡ On
  comes_on_at b g i waits active clear beat = (law.released b (inner_input g i) waits).1 (active, clear, rising.at_a_rise b (inner_input g i) waits ∙ ap (λ p. p && true) beat)

  pub button_comes_on : WaitingCanComeOn (buttoned m)
  button_comes_on b w waits clear =
      let in0 = waiting_in _ _ waits in
      let f = b.button in
      let b0 = b.inner in
      let w0 = in0.inner in
      let i1 = with_reset w false off in
      let f1 = fields_next (m.mode b0) f i1 in
      let b1 = m.next b0 (inner_input f1 i1) in
      let r1 = made_ready f w (m.mode b0) w0 in0.no_error in
      let w1 = goes_on_waiting b0 f1 i1 w0 refl clear (search rules) in
      let c1 = law.stay.clear b0 (inner_input f1 i1) w ∙ clear in
      let i2 = with_reset w false (on_after 0) in
      let f2 = fields_next (m.mode b1) f1 i2 in
      let b2 = m.next b1 (inner_input f2 i2) in
      let e2 = made_pressed f w (m.mode b1) w1 f1 r1 in
      let w2 = goes_on_waiting b1 f2 i2 w1 refl c1 (ap (λ (g : ButtonFields). is_pulse g.state) e2) in
      let c2 = law.stay.clear b1 (inner_input f2 i2) w ∙ c1 in
      let i3 = with_reset w true (on_after (read_back f).min) in
      let f3 = fields_next (m.mode b2) f2 i3 in
      let b3 = m.next b2 (inner_input f3 i3) in
      let e3 = made_held f w (m.mode b2) w2 f2 e2 in
      let w3 = goes_on_waiting b2 f3 i3 w2 refl c2 (ap (λ (g : ButtonFields). is_pulse g.state) e3) in
      let c3 = law.stay.clear b2 (inner_input f3 i3) w ∙ c2 in
      let i4 = with_reset w true off in
      let f4 = fields_next (m.mode b3) f3 i4 in
      let e4 = made_pulse f w (m.mode b3) w3 f3 e3 in
      let beat : is_pulse f4.state ≡ true = ap (λ (g : ButtonFields). is_pulse g.state) e4 in
      let short = min_short f in
      record {
        steps = off ∷ on_after 0 ∷ on_after (read_back f).min ∷ off ∷ [];
        fits = (lit< tt, (lit< tt, (omega arith, (lit< tt, tt))));
        ends_on = on_out _ _ (comes_on_at b3 f4 i4 w3 refl c3 beat);
      }

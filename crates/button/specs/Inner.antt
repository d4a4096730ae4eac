-- What a block under a button is by its inner block and its button, as relations between two meanings.
use Rattle.std.specs.Prelude.{◌≡◌, true, false, ◌⊎◌, ◌↔◌}
use Rattle.block.specs.declared.setup.Setup.{Setup}
use Rattle.block.specs.declared.types.Input.{Input}
use Rattle.block.specs.declared.types.Mode.{Mode}
use Rattle.block.specs.declared.types.Mode.TheVariants.{Waiting, Fault}
use Rattle.block.specs.declared.types.Word.{Word}
use Rattle.block.specs.Meaning.{Meaning}
use Rattle.reset.specs.declared.fields.ButtonFields.{ButtonFields}
use Rattle.reset.specs.declared.fields.ResetInput.{ResetInput}
use Rattle.reset.specs.Limits.{read_back}
use Rattle.reset.specs.Machine.{made_button, button_next, button_code, is_pulse, in_error}

-- the button is requested in an active step of a block that waited
pub record ButtonSteps (waited : Type 0) (f f' : ButtonFields) (i : Input) : Type 0 where
  pub input : ResetInput
  pub requested : (input.requested ≡ true) ↔ ((i.active ≡ true) × waited)
  pub now : input.now ≡ i.now
  pub before : input.before ≡ i.before
  pub elapsed : input.elapsed ≡ i.elapsed
  pub follows : f' ≡ button_next (read_back f) input

-- the step that the inner block sees: the pulse stands in for the reset
pub record InnerSteps (f' : ButtonFields) (i j : Input) : Type 0 where
  pub active : j.active ≡ i.active
  pub word : j.word ≡ i.word
  pub now : j.now ≡ is_pulse f'.state
  pub before : j.before ≡ false
  pub elapsed : j.elapsed ≡ i.elapsed

-- what a step brings the inner block: the step that it sees, what that makes of it, and whether it releases
pub record InnerStepped {B L : Type 0} (inner : L → B) (fields : L → ButtonFields) (m : Meaning B) (l : Meaning L) (x : L) (i : Input) : Type 0 where
  pub seen : Input
  pub steps : InnerSteps (fields (l.next x i)) i seen
  pub next : inner (l.next x i) ≡ m.next (inner x) seen
  pub releases : (l.releases x i ≡ true) ↔ (m.releases (inner x) seen ≡ true)
  -- which is at the button's pulse
  pub pulse : l.releases x i ≡ true → is_pulse (fields (l.next x i)).state ≡ true

pub record Buttons {B L : Type 0} (inner : L → B) (fields : L → ButtonFields) (m : Meaning B) (l : Meaning L) : Type 0 where
  -- a fault is the inner block's, or the button's while the inner block waits
  pub fault : (x : L) → (l.mode x ≡ Fault) ↔ ((m.mode (inner x) ≡ Fault) ⊎ ((m.mode (inner x) ≡ Waiting) × (in_error (read_back (fields x)).state ≡ true)))
  -- the layer waits with the inner block, unless the button is in a C state
  pub waiting : (x : L) → (l.mode x ≡ Waiting) ↔ ((m.mode (inner x) ≡ Waiting) × (in_error (read_back (fields x)).state ≡ false))
  -- in the other modes the layer follows the inner block
  pub other : (x : L) (o : Mode) → (o ≡ Fault → ⊥) → (o ≡ Waiting → ⊥) → (l.mode x ≡ o) ↔ (m.mode (inner x) ≡ o)
  -- these are handed up from the inner block
  pub clear : (x : L) (w : Word) → (l.clear x w ≡ true) ↔ (m.clear (inner x) w ≡ true)
  pub latched : (x : L) → (l.latched x ≡ true) ↔ (m.latched (inner x) ≡ true)
  pub requests : (x : L) → (l.requests x ≡ true) ↔ (m.requests (inner x) ≡ true)
  -- the code: the button's in waiting
  pub shows_button : (x : L) → m.mode (inner x) ≡ Waiting → l.code x ≡ button_code (read_back (fields x)).state
  pub shows_inner : (x : L) → (m.mode (inner x) ≡ Waiting → ⊥) → l.code x ≡ m.code (inner x)
  -- both step
  pub button : (x : L) (i : Input) → ButtonSteps (m.mode (inner x) ≡ Waiting) (fields x) (fields (l.next x i)) i
  pub stepped : (x : L) (i : Input) → InnerStepped inner fields m l x i
  -- both are made from the row
  pub makes_inner : (s : Setup) → inner (l.made s) ≡ m.made s
  pub makes_button : (s : Setup) → fields (l.made s) ≡ made_button s.times

-- Steps by their reset bits, and lists of active steps with one word.
use Rattle.std.specs.Prelude.{◌≡◌, ℕ, ◌^◌, ◌<◌, Bool, true, false, not, ◌&&◌, List, [], ◌∷◌}
use Rattle.block.specs.declared.types.Input.{Input}
use Rattle.block.specs.declared.types.Mode.TheVariants.{On}
use Rattle.block.specs.declared.types.Word.{Word}
use Rattle.block.specs.Meaning.{Meaning}

-- a rise of the reset: on now, off before
abbrev pub rise : Bool → Bool → Bool
rise now before = now && not before

-- an active step with the reset off
pub record ResetOff (i : Input) : Type 0 where
  pub active : i.active ≡ true
  pub off : i.now ≡ false

-- a quiet step: active, with the reset off now and before
pub record Quiet (i : Input) : Type 0 where
  pub active : i.active ≡ true
  pub off : i.now ≡ false
  pub was_off : i.before ≡ false

-- what varies in a list of active steps with one word: the reset bit and the elapsed milliseconds
pub record ResetStep : Type 0 where
  pub now : Bool
  pub elapsed : ℕ

-- the active step with the word w and this reset bit, after a step that had the reset bit `before`
abbrev pub with_reset : Word → Bool → ResetStep → Input
with_reset w before p = record { active = true; word = w; now = p.now; before = before; elapsed = p.elapsed }

-- the block after a list of active steps with the word w; each step's before is the now of the one ahead of it
abbrev pub after : {B : Type 0} → Meaning B → Word → Bool → B → List ResetStep → B
after m w before b [] = b
after m w before b (p ∷ ps) = after m w p.now (m.next b (with_reset w before p)) ps

-- each elapsed time is one that a step can bring, 0 to 65,535
abbrev pub ElapsedFits : List ResetStep → Type 0
ElapsedFits [] = Unit {0}
ElapsedFits (p ∷ ps) = (p.elapsed < 2 ^ 16) × ElapsedFits ps

-- some list of active steps with the word w ends on; before is off at its start
pub record ReachesOn {B : Type 0} (m : Meaning B) (b : B) (w : Word) : Type 0 where
  pub steps : List ResetStep
  pub fits : ElapsedFits steps
  pub ends_on : m.mode (after m w false b steps) ≡ On

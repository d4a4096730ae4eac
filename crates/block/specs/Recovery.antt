-- What the laws give every latched block: it waits, and it can be brought on.
use Rattle.std.specs.Prelude.{◌≡◌, true}
use Rattle.block.specs.declared.types.Input.{Input}
use Rattle.block.specs.declared.types.Mode.TheVariants.{Idle, Off, Waiting}
use Rattle.block.specs.declared.types.Word.{Word}
use Rattle.block.specs.Meaning.{Meaning}
use Rattle.block.specs.Runs.{Quiet, ReachesOn}

-- off after the quiet step i, waiting after the quiet step j with the word w, and then some steps with w bring it on
pub record Recovers {B : Type 0} (m : Meaning B) (b : B) (w : Word) (i j : Input) : Type 0 where
  pub off : m.mode (m.next b i) ≡ Off
  pub waiting : m.mode (m.next (m.next b i) j) ≡ Waiting
  pub on : ReachesOn m (m.next (m.next b i) j) w

-- every latched idle block with a clear word recovers
abbrev pub LatchedRecovers : {B : Type 0} → Meaning B → Type 0
LatchedRecovers {B} m = (b : B) (w : Word) (i j : Input) → m.latched b ≡ true → m.mode b ≡ Idle → m.clear b w ≡ true → Quiet i → Quiet j → j.word ≡ w → Recovers m b w i j

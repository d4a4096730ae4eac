-- What a kind of block means: all that the laws, the layers and the scan know of it.
use Rattle.std.specs.Prelude.{Bool}
use Rattle.block.specs.declared.code.Code.{Code}
use Rattle.block.specs.declared.setup.Setup.{Setup}
use Rattle.block.specs.declared.types.Input.{Input}
use Rattle.block.specs.declared.types.Mode.{Mode}
use Rattle.block.specs.declared.types.Word.{Word}

pub record Meaning (B : Type 0) : Type 0 where
  -- what the block is doing
  pub mode : B → Mode
  -- clear: the words of pins that let the block be on
  pub clear : B → Word → Bool
  -- latched: the block never comes on without a reset
  pub latched : B → Bool
  -- releases: the step is the reset that a waiting block waits for
  pub releases : B → Input → Bool
  -- the block after a step
  pub next : B → Input → B
  -- the block as it is made from a sheet's row and times
  pub made : Setup → B
  -- the diagnostic code that the block shows
  pub code : B → Code
  -- whether the block asks for a reset
  pub requests : B → Bool

abbrev pub meant : {B : Type 0} → (B → Mode) → (B → Word → Bool) → (B → Bool) → (B → Input → Bool) → (B → Input → B) → (Setup → B) → (B → Code) → (B → Bool) → Meaning B
meant mode clear latched releases next made code requests = record {
  mode = mode;
  clear = clear;
  latched = latched;
  releases = releases;
  next = next;
  made = made;
  code = code;
  requests = requests;
}

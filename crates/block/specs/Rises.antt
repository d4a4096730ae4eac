-- What makes a block a rising one.
use Rattle.std.specs.Prelude.{◌≡◌, true, false}
use Rattle.block.specs.declared.types.Input.{Input}
use Rattle.block.specs.declared.types.Mode.TheVariants.{Waiting}
use Rattle.block.specs.Laws.{LatchedIdleEndsOff, LatchedClearEndsWaiting, LatchedGetsNoFault}
use Rattle.block.specs.Meaning.{Meaning}
use Rattle.block.specs.Runs.{ResetOff, rise}

pub record Rises {B : Type 0} (m : Meaning B) : Type 0 where
  -- the release that it waits for is a rise of the reset
  pub at_a_rise : (b : B) (i : Input) → m.mode b ≡ Waiting → m.releases b i ≡ rise i.now i.before
  -- and until then it waits, as long as it is active and clear
  pub else_waits : (b : B) (i : Input) → m.mode b ≡ Waiting → i.active ≡ true → m.clear b i.word ≡ true → m.releases b i ≡ false → m.mode (m.next b i) ≡ Waiting
  -- laws 9 to 11 whatever the reset was before, so also in the scan after a loading
  pub ends_off : LatchedIdleEndsOff ResetOff m
  pub ends_waiting : LatchedClearEndsWaiting ResetOff m
  pub no_fault : LatchedGetsNoFault ResetOff m

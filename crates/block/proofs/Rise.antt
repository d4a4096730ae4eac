-- One rise of the reset brings every waiting rising block on, for each clear word.
use Rattle.std.proofs.Common.{true, false, [], ◌∷◌, refl, lit<}
use Rattle.block.specs.Laws.{StepLaws, WaitingCanComeOn}
use Rattle.block.specs.Meaning.{Meaning}
use Rattle.block.specs.Rises.{Rises}
use Rattle.block.specs.Runs.{ResetStep, with_reset}

abbrev up : ResetStep
up = record { now = true; elapsed = 0 }

pub comes_on_at_a_rise : {B : Type 0} (m : Meaning B) → StepLaws m → Rises m → WaitingCanComeOn m
comes_on_at_a_rise m law rises b w waits clear = record {
  steps = up ∷ [];
  fits = (lit< tt, tt);
  ends_on = (law.released b (with_reset w false up) waits).1 (refl, clear, rises.at_a_rise b (with_reset w false up) waits);
}

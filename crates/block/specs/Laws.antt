-- The laws of the interface, each one definition over a meaning; docs/interface.md numbers them so.
use Rattle.std.specs.Prelude.{◌≡◌, true, false, ◌⊎◌, ◌↔◌, ◌≢◌}
use Rattle.block.specs.declared.setup.Setup.{Setup}
use Rattle.block.specs.declared.types.Input.{Input}
use Rattle.block.specs.declared.types.Mode.TheVariants.{Idle, Off, Waiting, On, Fault}
use Rattle.block.specs.declared.types.Word.{Word}
use Rattle.block.specs.Meaning.{Meaning}
use Rattle.block.specs.Runs.{Quiet, ReachesOn}

-- power-up: every block begins idle
abbrev pub MadeIsIdle : {B : Type 0} → Meaning B → Type 0
MadeIsIdle m = (s : Setup) → m.mode (m.made s) ≡ Idle

-- 1: without activation a block rests
abbrev pub InactiveEndsIdle : {B : Type 0} → Meaning B → Type 0
InactiveEndsIdle {B} m = (b : B) (i : Input) → i.active ≡ false → m.mode (m.next b i) ≡ Idle

-- 2: with activation it does not
abbrev pub ActiveLeavesIdle : {B : Type 0} → Meaning B → Type 0
ActiveLeavesIdle {B} m = (b : B) (i : Input) → i.active ≡ true → m.mode (m.next b i) ≢ Idle

-- 3: no block is on, or asks for its reset, over pins that are not clear
abbrev pub OnOrWaitingWasClear : {B : Type 0} → Meaning B → Type 0
OnOrWaitingWasClear {B} m = (b : B) (i : Input) → (m.mode (m.next b i) ≡ On) ⊎ (m.mode (m.next b i) ≡ Waiting) → m.clear b i.word ≡ true

-- 4: what is on stays on while it is active and clear
abbrev pub ClearKeepsOn : {B : Type 0} → Meaning B → Type 0
ClearKeepsOn {B} m = (b : B) (i : Input) → i.active ≡ true → m.clear b i.word ≡ true → m.mode b ≡ On → m.mode (m.next b i) ≡ On

-- 5: out of waiting a block comes on by a release alone, and by every release that finds it active and clear
abbrev pub WaitingEndsOnExactlyReleased : {B : Type 0} → Meaning B → Type 0
WaitingEndsOnExactlyReleased {B} m = (b : B) (i : Input) → m.mode b ≡ Waiting → (m.mode (m.next b i) ≡ On) ↔ ((i.active ≡ true) × (m.clear b i.word ≡ true) × (m.releases b i ≡ true))

-- 6: a release needs a block that waits and a reset bit that changes
abbrev pub ReleasesWaitingAtAnEdge : {B : Type 0} → Meaning B → Type 0
ReleasesWaitingAtAnEdge {B} m = (b : B) (i : Input) → m.releases b i ≡ true → (m.mode b ≡ Waiting) × (i.now ≢ i.before)

-- 7: no step leads from a fault straight to on
abbrev pub FaultDoesNotEndOn : {B : Type 0} → Meaning B → Type 0
FaultDoesNotEndOn {B} m = (b : B) (i : Input) → m.mode b ≡ Fault → m.mode (m.next b i) ≢ On

-- 8: a latched block comes on out of waiting alone, and does not wait in its first active step
pub record LatchedDoesNotStartItself {B : Type 0} (m : Meaning B) : Type 0 where
  pub not_on : (b : B) (i : Input) → m.latched b ≡ true → (m.mode b ≡ Idle) ⊎ (m.mode b ≡ Off) → m.mode (m.next b i) ≢ On
  pub not_waiting : (b : B) (i : Input) → m.latched b ≡ true → m.mode b ≡ Idle → m.mode (m.next b i) ≢ Waiting

-- the next three are said of a class of steps: laws 9 to 11 of the quiet ones, a rising block's promise of more
module _ (Step : Input → Type 0) where
  abbrev pub LatchedIdleEndsOff : {B : Type 0} → Meaning B → Type 0
  LatchedIdleEndsOff {B} m = (b : B) (i : Input) → m.latched b ≡ true → m.mode b ≡ Idle → Step i → m.mode (m.next b i) ≡ Off

  abbrev pub LatchedClearEndsWaiting : {B : Type 0} → Meaning B → Type 0
  LatchedClearEndsWaiting {B} m = (b : B) (i : Input) → m.latched b ≡ true → (m.mode b ≡ Off) ⊎ (m.mode b ≡ Waiting) → Step i → m.clear b i.word ≡ true → m.mode (m.next b i) ≡ Waiting

  abbrev pub LatchedGetsNoFault : {B : Type 0} → Meaning B → Type 0
  LatchedGetsNoFault {B} m = (b : B) (i : Input) → m.latched b ≡ true → (m.mode b ≢ Fault) → Step i → m.mode (m.next b i) ≢ Fault

-- 9: the first quiet step takes a latched block to off
abbrev pub QuietEndsOff : {B : Type 0} → Meaning B → Type 0
QuietEndsOff m = LatchedIdleEndsOff Quiet m

-- 10: over clear pins a quiet step takes a latched block to waiting, and keeps it there
abbrev pub QuietClearEndsWaiting : {B : Type 0} → Meaning B → Type 0
QuietClearEndsWaiting m = LatchedClearEndsWaiting Quiet m

-- 11: a latched block gets into no fault while nobody touches the reset
abbrev pub QuietBringsNoFault : {B : Type 0} → Meaning B → Type 0
QuietBringsNoFault m = LatchedGetsNoFault Quiet m

-- 12: a block that waits over clear pins can be brought on, with no pin changed
abbrev pub WaitingCanComeOn : {B : Type 0} → Meaning B → Type 0
WaitingCanComeOn {B} m = (b : B) (w : Word) → m.mode b ≡ Waiting → m.clear b w ≡ true → ReachesOn m b w

-- 13: which pins a block needs, and whether it is latched, is settled when it is made
pub record ClearAndLatchedStay {B : Type 0} (m : Meaning B) : Type 0 where
  pub clear : (b : B) (i : Input) (w : Word) → m.clear (m.next b i) w ≡ m.clear b w
  pub latched : (b : B) (i : Input) → m.latched (m.next b i) ≡ m.latched b

-- the laws of single steps: all but 12
pub record StepLaws {B : Type 0} (m : Meaning B) : Type 0 where
  pub made_idle : MadeIsIdle m
  pub inactive : InactiveEndsIdle m
  pub active : ActiveLeavesIdle m
  pub was_clear : OnOrWaitingWasClear m
  pub keeps_on : ClearKeepsOn m
  pub released : WaitingEndsOnExactlyReleased m
  pub edge : ReleasesWaitingAtAnEdge m
  pub fault : FaultDoesNotEndOn m
  pub no_start : LatchedDoesNotStartItself m
  pub ends_off : QuietEndsOff m
  pub ends_waiting : QuietClearEndsWaiting m
  pub no_fault : QuietBringsNoFault m
  pub stay : ClearAndLatchedStay m

-- all laws of the interface
pub record Laws {B : Type 0} (m : Meaning B) : Type 0 where
  pub steps : StepLaws m
  pub comes_on : WaitingCanComeOn m

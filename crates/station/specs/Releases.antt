-- Which calls of a history release a row, and which withdraw that.
use Rattle.std.specs.Prelude.{◌≡◌, ℕ, zero, suc, ◌<◌, true, false, ◌⊎◌, ◌↔◌, List, [], ◌∷◌, length}
use Rattle.block.specs.declared.types.Input.{Input}
use Rattle.block.specs.declared.types.Mode.TheVariants.{Waiting, On}
use Rattle.block.specs.Meaning.{Meaning}
use Rattle.sheet.specs.declared.wiring.Wiring.{Wiring}
use Rattle.sheet.specs.Wires.{listed}
use Rattle.station.specs.Calls.{Call, Steps, Stops, effect}
use Rattle.station.specs.Histories.{History, remembered}
use Rattle.station.specs.Rows.{input_of, row_at}
use Rattle.station.specs.Scans.{on_in}

-- of the call that n later calls follow
abbrev pub AtCall : (Call → History → Type 0) → History → ℕ → Type 0
AtCall P [] n = ⊥
AtCall P (c ∷ h) zero = P c h
AtCall P (c ∷ h) (suc n) = AtCall P h n

module _ {B : Type 0} (m : Meaning B) (w : Wiring) (f : History → ℕ → B) (k : ℕ) where
  -- the step that an accepted scan c of this image, after h, brings row k
  abbrev pub step_of : (image : List ℕ) (elapsed : ℕ) → Call → History → Input
  step_of image elapsed c h = input_of image (remembered h) elapsed (on_in m (f (c ∷ h))) (row_at (listed w) k)

  -- the call c, after h, is an accepted scan that finds row k waiting, active and clear, and whose step releases it
  pub record ReleasedBy (c : Call) (h : History) : Type 0 where
    pub image : List ℕ
    pub elapsed : ℕ
    pub accepted : effect c ≡ Steps image elapsed
    pub waited : m.mode (f h k) ≡ Waiting
    pub active : (step_of image elapsed c h).active ≡ true
    pub clear : m.clear (f h k) (step_of image elapsed c h).word ≡ true
    pub releases : m.releases (f h k) (step_of image elapsed c h) ≡ true

  -- the call c, after h, is an accepted scan that finds row k inactive or its word not clear
  pub record FoundOff (c : Call) (h : History) : Type 0 where
    pub image : List ℕ
    pub elapsed : ℕ
    pub accepted : effect c ≡ Steps image elapsed
    pub off : ((step_of image elapsed c h).active ≡ false) ⊎ (m.clear (f h k) (step_of image elapsed c h).word ≡ false)

  -- what ends a release: such a scan, a halt, or a scan that was refused for its elapsed time
  abbrev pub WithdrawnBy : Call → History → Type 0
  WithdrawnBy c h = FoundOff c h ⊎ (effect c ≡ Stops)

  -- a release of row k stands: one call gave it, and none of the later ones withdrew it
  pub record StandsReleased (h : History) : Type 0 where
    pub later : ℕ
    pub released : AtCall ReleasedBy h later
    pub not_withdrawn : (n : ℕ) → n < later → AtCall WithdrawnBy h n → ⊥

-- a latched row is on if and only if a release of it stands
abbrev pub OnByRelease : {B : Type 0} → Meaning B → (w : Wiring) → (History → ℕ → B) → Type 0
OnByRelease m w f = (h : History) (k : ℕ) → k < length (listed w) → m.latched (f h k) ≡ true → (m.mode (f h k) ≡ On) ↔ StandsReleased m w f k h

-- What is promised of a station's table and output bytes over every history.
use Rattle.std.specs.Prelude.{◌≡◌, ℕ, ◌<◌, true, ◌↔◌, List, ◌∷◌, length, slice_index}
use Rattle.block.specs.declared.types.Mode.TheVariants.{On}
use Rattle.block.specs.Meaning.{Meaning}
use Rattle.sheet.specs.declared.wiring.Wiring.{Wiring}
use Rattle.sheet.specs.Wires.{listed, routed}
use Rattle.station.specs.declared.station.Station.{Station}
use Rattle.station.specs.Calls.{Call, Leaves, effect}
use Rattle.station.specs.Histories.{History, FollowsRules, Fixed, Fits}
use Rattle.station.specs.Image.{bit_at, bit_of}
use Rattle.station.specs.Needs.{terminals, ListsNeeds, made_clear, WasOn, OnAsNeeded}
use Rattle.station.specs.Releases.{StandsReleased, OnByRelease}
use Rattle.station.specs.Scans.{at}

pub record Promised {B : Type 0} (m : Meaning B) (w : Wiring) (f : History → ℕ → B) (h : History) (table : List B) (bytes : List ℕ) : Type 0 where
  -- the last accepted scan found every terminal on that an output which is on needs
  pub needed : (i n t : ℕ) → i < 16 → bit_of bytes i ≡ true → ListsNeeds (made_clear m w) (listed w) (slice_index (routed w) i) n → t < terminals → bit_at n t ≡ true → WasOn h t
  -- a latched row is on if and only if a release of it stands
  pub released : (k : ℕ) → k < length (listed w) → m.latched (at m table k) ≡ true → (m.mode (at m table k) ≡ On) ↔ StandsReleased m w f k h

-- the call c takes every history that fits s, t and o on to s', t' and o'
pub record GoesOn {B : Type 0} (m : Meaning B) (c : Call) (s s' : Station) (t t' : List B) (o o' : List ℕ) : Type 0 where
  pub fits : (w : Wiring) (f : History → ℕ → B) → FollowsRules m w f → (h : History) → Fits m w f h s t o → Fits m w f (c ∷ h) s' t' o'
  pub promised : (w : Wiring) (f : History → ℕ → B) → FollowsRules m w f → (h : History) → Fits m w f h s t o → Promised m w f (c ∷ h) t' o'
  -- a call without effect may be lent another table and other bytes: the station's own then fit as before
  pub elsewhere : effect c ≡ Leaves → (w : Wiring) (f : History → ℕ → B) → FollowsRules m w f → (h : History) (own : List B) (bytes : List ℕ) → Fits m w f h s own bytes → Fits m w f (c ∷ h) s' own bytes

-- all that is promised of a meaning, over every wiring and every history
pub record PromisesKept {B : Type 0} (m : Meaning B) (w : Wiring) : Type 0 where
  -- each history fixes one block for each row
  pub fixed : Fixed m w
  -- and what follows the rules keeps both promises, row by row
  pub needed : (f : History → ℕ → B) → FollowsRules m w f → OnAsNeeded m w f
  pub released : (f : History → ℕ → B) → FollowsRules m w f → OnByRelease m w f
  -- so does every table, with its output bytes, that fits a history
  pub shown : (f : History → ℕ → B) → FollowsRules m w f → (h : History) (s : Station) (t : List B) (o : List ℕ) → Fits m w f h s t o → Promised m w f h t o

-- Histories of calls after one accepted loading, and the blocks that they fix.
use Rattle.std.specs.Prelude.{◌≡◌, ℕ, ◌<◌, List, [], ◌∷◌, length, Some, None, Option}
use Rattle.block.specs.Meaning.{Meaning}
use Rattle.sheet.specs.declared.wiring.Wiring.{Wiring}
use Rattle.sheet.specs.Wires.{listed, routed}
use Rattle.station.specs.declared.station.Station.{Station}
use Rattle.station.specs.Calls.{Call, Effect, Steps, Stops, Leaves, effect}
use Rattle.station.specs.Image.{all_ones, table_size, outputs_size}
use Rattle.station.specs.Outputs.{Shows}
use Rattle.station.specs.Rows.{setup_of, row_at}
use Rattle.station.specs.Scans.{at, on_in, StepsRow, IdlesRow, KeepsBlock}

-- the calls since the loading, the newest first
abbrev pub History : Type 0
History = List Call

abbrev pub image_after : Effect → List ℕ → List ℕ
image_after (Steps image elapsed) last = image
image_after Stops last = all_ones
image_after Leaves last = last

-- the image that the next scan's before bits are read from
abbrev pub remembered : History → List ℕ
remembered [] = all_ones
remembered (c ∷ h) = image_after (effect c) (remembered h)

abbrev pub scanned_after : Effect → Option (List ℕ) → Option (List ℕ)
scanned_after (Steps image elapsed) o = Some image
scanned_after Stops o = o
scanned_after Leaves o = o

-- the image of the last accepted scan, if there was one
abbrev pub last_scanned : History → Option (List ℕ)
last_scanned [] = None
last_scanned (c ∷ h) = scanned_after (effect c) (last_scanned h)

-- blocks f, one for each row after each history, follow the rules: the loading makes them, an accepted scan steps them in its order,
-- an accepted halt or a refused elapsed time idles them, and every other call leaves them
pub record FollowsRules {B : Type 0} (m : Meaning B) (w : Wiring) (f : History → ℕ → B) : Type 0 where
  pub made : (k : ℕ) → k < length (listed w) → f [] k ≡ m.made (setup_of w.times (row_at (listed w) k))
  pub stepped : (c : Call) (h : History) (image : List ℕ) (elapsed : ℕ) → effect c ≡ Steps image elapsed → (k : ℕ) → k < length (listed w) → StepsRow m (listed w) image (remembered h) elapsed (f h) (f (c ∷ h)) k
  pub idled : (c : Call) (h : History) → effect c ≡ Stops → (k : ℕ) → k < length (listed w) → IdlesRow m (f h) (f (c ∷ h)) k
  pub kept : (c : Call) (h : History) → effect c ≡ Leaves → (k : ℕ) → k < length (listed w) → KeepsBlock (f h) (f (c ∷ h)) k

-- the history alone fixes the block of each row: some blocks follow the rules, and no others do
pub record Fixed {B : Type 0} (m : Meaning B) (w : Wiring) : Type 0 where
  pub blocks : History → ℕ → B
  pub follow : FollowsRules m w blocks
  pub only : (f : History → ℕ → B) → FollowsRules m w f → (h : History) (k : ℕ) → k < length (listed w) → f h k ≡ blocks h k

-- station, table and output bytes are as the history h leaves them
pub record Fits {B : Type 0} (m : Meaning B) (w : Wiring) (f : History → ℕ → B) (h : History) (s : Station) (t : List B) (o : List ℕ) : Type 0 where
  pub wiring : s.wiring ≡ Some w
  pub last : s.last ≡ remembered h
  pub table_full : length t ≡ table_size
  pub table : (k : ℕ) → k < length (listed w) → at m t k ≡ f h k
  pub outputs_full : length o ≡ outputs_size
  pub outputs : Shows (routed w) (on_in m (f h)) o

-- Which terminals a row needs, as a rule over the rows of a wiring.
use Rattle.std.specs.Prelude.{◌≡◌, ℕ, ◌^◌, ◌<◌, Bool, true, false, ◌⊎◌, ◌↔◌, List, length, Some, ◌==◌, ◌≢◌}
use Rattle.block.specs.declared.types.Mode.TheVariants.{On}
use Rattle.block.specs.declared.types.Word.{Word}
use Rattle.block.specs.Meaning.{Meaning}
use Rattle.sheet.specs.declared.row.Row.{Row}
use Rattle.sheet.specs.declared.wiring.Wiring.{Wiring}
use Rattle.sheet.specs.Wires.{listed}
use Rattle.values.specs.declared.source.Source.{Source}
use Rattle.values.specs.declared.source.Source.TheVariants as source
use Rattle.station.specs.Histories.{History, last_scanned}
use Rattle.station.specs.Image.{bit_at, bit_of}
use Rattle.station.specs.Rows.{pin, row_at, setup_of}

-- how many terminals there are
abbrev pub terminals : ℕ
terminals = 64

-- whether a source needs terminal t; `needs` tells it of each row
abbrev pub source_needs : (ℕ → ℕ → Bool) → ℕ → Source → Bool
source_needs needs t source.Zero = true
source_needs needs t source.One = false
source_needs needs t (source.Terminal i) = i == t
source_needs needs t (source.Row j) = needs j t

-- every pin whose source needs t is off in the word
pub record OffWhereNeeded (needs : ℕ → ℕ → Bool) (t : ℕ) (r : Row) (w : Word) : Type 0 where
  pub pin0 : source_needs needs t (pin r 0) ≡ true → w.pin0 ≡ false
  pub pin1 : source_needs needs t (pin r 1) ≡ true → w.pin1 ≡ false
  pub pin2 : source_needs needs t (pin r 2) ≡ true → w.pin2 ≡ false
  pub pin3 : source_needs needs t (pin r 3) ≡ true → w.pin3 ≡ false

-- a row needs t for its activation, or since without t no word that is left is clear
abbrev pub RowNeeds : (Word → Bool) → (ℕ → ℕ → Bool) → Row → ℕ → Type 0
RowNeeds clear needs r t = (source_needs needs t r.act ≡ true) ⊎ ((w : Word) → OffWhereNeeded needs t r w → clear w ≢ true)

-- `needs` tells of each row which terminals it needs, where `clear` tells the clear words of each row's block
abbrev pub Needs : (ℕ → Word → Bool) → List Row → (ℕ → ℕ → Bool) → Type 0
Needs clear rows needs = (k t : ℕ) → k < length rows → t < terminals → (needs k t ≡ true) ↔ RowNeeds (clear k) needs (row_at rows k) t

-- n is the needs list of row k: bit t is on if the row needs terminal t
pub record ListsNeeds (clear : ℕ → Word → Bool) (rows : List Row) (k n : ℕ) : Type 0 where
  pub needs : ℕ → ℕ → Bool
  pub rule : Needs clear rows needs
  pub bits : (t : ℕ) → t < terminals → bit_at n t ≡ needs k t
  pub small : n < 2 ^ terminals

-- the clear words of each row's block
abbrev pub clear_in : {B : Type 0} → Meaning B → (ℕ → B) → ℕ → Word → Bool
clear_in m f k v = m.clear (f k) v

-- the clear words of each row's block as the loading makes it
abbrev pub made_clear : {B : Type 0} → Meaning B → Wiring → ℕ → Word → Bool
made_clear m w k v = m.clear (m.made (setup_of w.times (row_at (listed w) k))) v

-- terminal t was on in the last accepted scan
pub record WasOn (h : History) (t : ℕ) : Type 0 where
  pub image : List ℕ
  pub scanned : last_scanned h ≡ Some image
  pub on : bit_of image t ≡ true

-- each terminal that a row which is on needs was on in the last accepted scan
abbrev pub OnAsNeeded : {B : Type 0} → Meaning B → (w : Wiring) → (History → ℕ → B) → Type 0
OnAsNeeded m w f = (needs : ℕ → ℕ → Bool) → Needs (made_clear m w) (listed w) needs → (h : History) (k t : ℕ) → k < length (listed w) → t < terminals → m.mode (f h k) ≡ On → needs k t ≡ true → WasOn h t

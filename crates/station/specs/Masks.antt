-- Masks with a bit for each terminal, by which needs lists are worked out.
use Rattle.std.specs.Prelude.{◌≡◌, ℕ, ◌/◌, ◌%◌, ◌<◌, Bool, ◌&&◌, ◌||◌, List, ◌==◌, slice_index}
use Rattle.block.specs.declared.types.Word.{Word}
use Rattle.sheet.specs.declared.row.Row.{Row}
use Rattle.station.specs.Image.{bit_at}
use Rattle.station.specs.Needs.{source_needs, terminals}
use Rattle.station.specs.Rows.{pin}

-- what the masks of rows tell of row k and terminal t
abbrev pub masked : List ℕ → ℕ → ℕ → Bool
masked masks k t = bit_at (slice_index masks k) t

-- the word whose pins are the bits of a number
abbrev pub word_number : ℕ → Word
word_number n = record { pin0 = (n % 2 == 1); pin1 = (n / 2 % 2 == 1); pin2 = (n / 4 % 2 == 1); pin3 = (n / 8 % 2 == 1) }

-- some pin that is on in the word has terminal t in its mask
abbrev pub pins_cover : List ℕ → ℕ → Word → Bool
pins_cover pins t w = (w.pin0 && bit_at (slice_index pins 0) t) || ((w.pin1 && bit_at (slice_index pins 1) t) || ((w.pin2 && bit_at (slice_index pins 2) t) || (w.pin3 && bit_at (slice_index pins 3) t)))

-- the masks of a row's four pins
pub record PinMasks (needs : ℕ → ℕ → Bool) (r : Row) (pins : List ℕ) : Type 0 where
  pub pin0 : (t : ℕ) → t < terminals → bit_at (slice_index pins 0) t ≡ source_needs needs t (pin r 0)
  pub pin1 : (t : ℕ) → t < terminals → bit_at (slice_index pins 1) t ≡ source_needs needs t (pin r 1)
  pub pin2 : (t : ℕ) → t < terminals → bit_at (slice_index pins 2) t ≡ source_needs needs t (pin r 2)
  pub pin3 : (t : ℕ) → t < terminals → bit_at (slice_index pins 3) t ≡ source_needs needs t (pin r 3)

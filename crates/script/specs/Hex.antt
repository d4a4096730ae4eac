-- How an image is written: two hexadecimal digits a byte, byte 0 first.
use Rattle.std.specs.Prelude.{◌≡◌, ℕ, ◌+◌, ◌*◌, ◌%◌, ◌<◌, ◌≤◌, ◌⊎◌, List, [], length, codes, slice_index}
use Rattle.script.specs.Characters.{digit_zero, capital_a, small_a}
use Rattle.script.specs.Limits.{image_limit}

-- the byte c is a digit of the value d: 0 to 9, or a letter, small or capital, from 10 on
abbrev pub HexDigit : ℕ → ℕ → Type 0
HexDigit c d = ((d < 10) × (c ≡ digit_zero + d)) ⊎ (((10 ≤ d) × (d < 16)) × ((c + 10 ≡ small_a + d) ⊎ (c + 10 ≡ capital_a + d)))

-- two digits write the byte b, the high one first
pub record HexByte (high low b : ℕ) : Type 0 where
  pub tens : ℕ
  pub ones : ℕ
  pub high_is : HexDigit high tens
  pub low_is : HexDigit low ones
  pub is : b ≡ 16 * tens + ones

-- so many digits write a whole number of bytes, one at least
abbrev pub PairsLong : ℕ → Type 0
PairsLong n = (1 ≤ n) × (n ≤ 2 * image_limit) × (n % 2 ≡ 0)

-- the digits write the bytes, a pair for each
pub record PairsWritten (s bytes : List ℕ) : Type 0 where
  pub long : PairsLong (length s)
  pub twice : length s ≡ 2 * length bytes
  pub each : (k : ℕ) → k < length bytes → HexByte (slice_index s (2 * k)) (slice_index s (2 * k + 1)) (slice_index bytes k)

-- s writes the bytes of an image; `-` is written for no byte
abbrev pub ImageWritten : List ℕ → List ℕ → Type 0
ImageWritten s bytes = ((s ≡ codes "-") × (bytes ≡ [])) ⊎ PairsWritten s bytes

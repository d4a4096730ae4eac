-- Bits of numbers and of images.
use Rattle.std.specs.Prelude.{ℕ, ◌/◌, ◌%◌, ◌^◌, Bool, List, replicate, ◌==◌, slice_index}

-- how many blocks, image bytes and output bytes a call is lent
abbrev pub table_size : ℕ
table_size = 32

abbrev pub image_size : ℕ
image_size = 8

abbrev pub outputs_size : ℕ
outputs_size = 2

abbrev pub bit_at : ℕ → ℕ → Bool
bit_at n j = n / 2 ^ j % 2 == 1

-- eight to a byte, the lowest bit first: terminals in an image, outputs in their bytes
abbrev pub bit_of : List ℕ → ℕ → Bool
bit_of bytes k = bit_at (slice_index bytes (k / 8)) (k % 8)

-- the image that loading and halting remember
abbrev pub all_ones : List ℕ
all_ones = replicate image_size 255

-- the output bytes that loading and halting leave
abbrev pub no_outputs : List ℕ
no_outputs = replicate outputs_size 0

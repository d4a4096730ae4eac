-- What the output bytes show.
use Rattle.std.specs.Prelude.{◌≡◌, ℕ, ◌<◌, Bool, ◌&&◌, List, length, nat_lt, slice_index}
use Rattle.station.specs.Image.{bit_of}

-- an output shows its row; a bit that no output has is 0
abbrev pub output_on : List ℕ → (ℕ → Bool) → ℕ → Bool
output_on outs ons i = nat_lt i (length outs) && ons (slice_index outs i)

-- each bit of the output bytes is that of its output
abbrev pub Shows : List ℕ → (ℕ → Bool) → List ℕ → Type 0
Shows outs ons bytes = (i : ℕ) → i < 16 → bit_of bytes i ≡ output_on outs ons i

-- each output's row is one of the first n
abbrev pub OutsWithin : List ℕ → ℕ → Type 0
OutsWithin outs n = (i : ℕ) → i < length outs → slice_index outs i < n

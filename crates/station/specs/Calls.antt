-- The calls that follow a loading, and what each does to the rows.
use Rattle.std.specs.Prelude.{ℕ, Bool, cond, ◌&&◌, List, length, Ok, Err, Result, ◌==◌, nat_le}
use Rattle.station.specs.declared.refusal.Refusal.{Refusal}
use Rattle.station.specs.declared.refusal.Refusal.TheVariants.{Sizes, Elapsed}
use Rattle.station.specs.Image.{table_size, image_size, outputs_size}

-- 1 to 1,000 milliseconds
abbrev pub elapsed_allowed : ℕ → Bool
elapsed_allowed elapsed = nat_le 1 elapsed && nat_le elapsed 1000

-- the table and the output bytes that a call is lent are of the right sizes
abbrev pub sizes_allowed : ℕ → ℕ → Bool
sizes_allowed blocks bytes = blocks == table_size && bytes == outputs_size

-- a call by what it is lent: so many blocks, an image, an elapsed time, so many output bytes
pub data Call : Type 0 where
  Scan : (blocks : ℕ) (image : List ℕ) (elapsed bytes : ℕ) → Call
  Halt : (blocks bytes : ℕ) → Call
  -- a report, a needs list or a refused loading
  Read : Call

-- what a call does to the rows
pub data Effect : Type 0 where
  -- an accepted scan of this image
  Steps : (image : List ℕ) (elapsed : ℕ) → Effect
  -- an accepted halt, or a scan that is refused for its elapsed time
  Stops : Effect
  Leaves : Effect

abbrev pub effect : Call → Effect
effect (Scan blocks image elapsed bytes) = cond (sizes_allowed blocks bytes && length image == image_size) (cond (elapsed_allowed elapsed) (Steps image elapsed) Stops) Leaves
effect (Halt blocks bytes) = cond (sizes_allowed blocks bytes) Stops Leaves
effect Read = Leaves

-- what a scan answers
abbrev pub scan_answer : Effect → Result (Unit {0}) Refusal
scan_answer (Steps image elapsed) = Ok tt
scan_answer Stops = Err Elapsed
scan_answer Leaves = Err Sizes

-- what a halt answers; it steps no row
abbrev pub halt_answer : Effect → Result (Unit {0}) Refusal
halt_answer (Steps image elapsed) = Ok tt
halt_answer Stops = Ok tt
halt_answer Leaves = Err Sizes

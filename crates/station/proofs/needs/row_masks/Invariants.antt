use Rattle.std.proofs.Common.{◌≡◌, ℕ, ◌<◌, true, ◌↔◌, length, drop}
use Rattle.arrayvec.specs.ArrayVec.{array_vec_len}
use Rattle.block.specs.Of.{meaning}
use Rattle.station.specs.Masks.{masked}
use Rattle.station.specs.Needs.{terminals, RowNeeds, clear_in}
use Rattle.station.specs.Rows.{row_at}
use Rattle.station.specs.Scans.{at}
use Rattle.station.proofs.needs.row_masks.Given as goal

abbrev pub invariant-loop-row : goal.invariant-loop-row
invariant-loop-row g l =
    let m = meaning g.B.Block in
    (l.row-iterator.a.rest.now ≡ drop (length l.yielded) l.rows)
    × (l.row-iterator.b.rest.now ≡ drop (length l.yielded) l.table)
    × (array_vec_len l.masks ≡ length l.yielded)
    × ((j t : ℕ) → j < length l.yielded → t < terminals → (masked l.masks.items j t ≡ true) ↔ RowNeeds (clear_in m (at m l.table) j) (masked l.masks.items) (row_at l.rows j) t)

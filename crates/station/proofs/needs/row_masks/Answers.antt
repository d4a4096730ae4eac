use Rattle.std.proofs.Common.{◌≡◌, ℕ, ◌<◌, true, ◌⊎◌, ◌↔◌, List, [], ◌∷◌, drop, length, length-append, ap, ◌∙◌, sym, subst, inl, inr, ⊎_elim, arith, rules}
use Rattle.block.specs.Of.{meaning}
use Rattle.sheet.specs.declared.row.Row.{Row}
use Rattle.station.specs.Image.{bit_at}
use Rattle.station.specs.Masks.{masked}
use Rattle.station.specs.Needs.{terminals, RowNeeds, clear_in}
use Rattle.station.specs.Rows.{row_at, blank_row, blank_setup}
use Rattle.station.specs.Scans.{at}
use Rattle.station.proofs.Rule.{mask_more}
use Rattle.station.proofs.Walks.{rest_after, due_item, due_place, ended}
use Rattle.station.proofs.needs.row_masks.Goals as goal

pub invariant_of-placed : goal.invariant_of-placed
invariant_of-placed g c =
    let rows = c.args.rows.now in
    let n = length c.loop-row.yielded in
    let due : drop n rows ≡ c.in-Some.row.now ∷ c.next.new.self.a.rest.now = search rules in
    let place : length c.as_slice.result.now ≡ n = search rules in
    let row = due_item rows _ c.in-Some.row.now n due blank_row in
    record { wired = rw place (rw row (c.requires.wired n (due_place rows _ c.in-Some.row.now n due))) }

pub loop-row-preserved : goal.loop-row-preserved
loop-row-preserved g c =
    let m = meaning g.B.Block in
    let rows = c.args.rows.now in
    let table = c.args.table.now in
    let xs = c.loop-row.masks.items in
    let n = length c.loop-row.yielded in
    let due_row : drop n rows ≡ c.in-Some.row.now ∷ c.next.new.self.a.rest.now = search rules in
    let due_block : drop n table ≡ c.in-Some.block.now ∷ c.next.new.self.b.rest.now = search rules in
    let on_sheet : n < length rows = due_place rows _ c.in-Some.row.now n due_row in
    let long : length xs ≡ n = c.loop-row.invariant.2 in
    let more = length-append c.loop-row.yielded ((c.in-Some.row, c.in-Some.block) ∷ []) in
    let row = due_item rows _ c.in-Some.row.now n due_row blank_row in
    let block = due_item table _ c.in-Some.block.now n due_block (m.made blank_setup) in
    let mask = c.mask-mask.result in
    let of_masks = subst (λ (ys : List ℕ). (t : ℕ) → t < terminals → (bit_at mask t ≡ true) ↔ RowNeeds (m.clear c.in-Some.block.now) (masked ys) c.in-Some.row.now t) c.as_slice.ensures.value c.mask-mask.ensures in
    let of_block = subst (λ (b : g.row.B.Denot). (t : ℕ) → t < terminals → (bit_at mask t ≡ true) ↔ RowNeeds (m.clear b) (masked xs) c.in-Some.row.now t) block of_masks in
    let of_row = subst (λ (r : Row). (t : ℕ) → t < terminals → (bit_at mask t ≡ true) ↔ RowNeeds (m.clear (at m table n)) (masked xs) r t) row of_block in
    let is = subst (λ (k : ℕ). (t : ℕ) → t < terminals → (bit_at mask t ≡ true) ↔ RowNeeds (clear_in m (at m table) k) (masked xs) (row_at rows k) t) (sym long) of_row in
    let masks = mask_more (clear_in m (at m table)) rows c.requires.wired xs mask (rw long on_sheet) (rw long c.loop-row.invariant.3) is in (
      rest_after rows _ c.in-Some.row.now n due_row ∙ ap (λ k. drop k rows) (sym more),
      rest_after table _ c.in-Some.block.now n due_block ∙ ap (λ k. drop k table) (sym more),
      search rules,
      λ j t lt small. rw c.push.ensures.items (masks j t (omega arith) small),
    )

pub returns-clause-needs : goal.returns-clause-needs
returns-clause-needs g c k t lt small =
    let left = c.loop-row.row-iterator in
    let at_end : (length left.a.rest.now ≡ 0) ⊎ (length left.b.rest.now ≡ 0) = ⊎_elim (λ a. inl a.1.0) (λ b. inr b.1.0) c.in-None.ensures.steps in
    let over = ended c.args.rows.now left.a.rest.now c.args.table.now left.b.rest.now (length c.loop-row.yielded) c.requires.rows_in_bounds c.loop-row.invariant.0 c.loop-row.invariant.1 at_end in
    c.loop-row.invariant.3 k t (omega arith) small

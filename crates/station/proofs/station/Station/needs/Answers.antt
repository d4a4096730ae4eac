use Rattle.std.proofs.Common.{◌≡◌, ℕ, ◌<◌, true, eqb, ltb, List, length, get_or, sym, subst, rules}
use Rattle.std.proofs.lemmas.Bool.{ltb-true}
use Rattle.block.specs.Of.{meaning}
use Rattle.sheet.specs.declared.row.Row.{Row}
use Rattle.station.specs.Image.{table_size}
use Rattle.station.specs.Masks.{masked}
use Rattle.station.specs.Needs.{Needs, clear_in}
use Rattle.station.specs.Scans.{at}
use Rattle.station.specs.Reads.{NeedsTold}
use Rattle.station.specs.Stations.{rows_of}
use Rattle.station.specs.Wires.{Wired}
use Rattle.station.proofs.Reading.{reads, needs_told}
use Rattle.station.proofs.station.Station.needs.Goals as goal

pub returns-then-table-ne32-clause-history : goal.returns-then-table-ne32-clause-history
returns-then-table-ne32-clause-history g c = reads (meaning g.B.Block) g.met.B.Block.laws c.args.self.now c.args.table.now

pub returns-clause-history : goal.returns-clause-history
returns-clause-history g c = reads (meaning g.B.Block) g.met.B.Block.laws c.args.self.now c.args.table.now

pub returns-clause-answer : goal.returns-clause-answer
returns-clause-answer g c =
    let m = meaning g.B.Block in
    let s = c.args.self.now in
    let size : eqb (length c.args.table.now) table_size ≡ true = search rules in
    let here : ltb c.args.output (length c.outs.result.now) ≡ true = search rules in
    let number = subst (λ (o : List ℕ). ltb c.args.output (length o) ≡ true) c.outs.ensures.outs here in
    let masks = c.as_slice.result.now in
    let of_slice = subst (λ (xs : List ℕ). Needs (clear_in m (at m c.args.table.now)) c.rows.result.now (masked xs)) (sym c.as_slice.ensures.value) c.row_masks-masks.ensures.needs in
    let rule = subst (λ (r : List Row). Needs (clear_in m (at m c.args.table.now)) r (masked masks)) c.rows.ensures.rows of_slice in
    let wired = subst Wired c.rows.ensures.rows c.rows.ensures.wired in
    let output = c.args.output in
    let outs = c.outs.ensures.outs in
    let on_sheet = subst (λ (o : List ℕ). get_or o output 0 < length (rows_of s)) outs (c.outs.ensures.within output (ltb-true output (length c.outs.result.now) here)) in
    let row : c.in_ok-row.row.now ≡ get_or c.outs.result.now output 0 = search rules in
    let fits : get_or masks (get_or c.outs.result.now c.args.output 0) 0 < 18446744073709551616 = search rules in
    let small = subst (λ (o : List ℕ). get_or masks (get_or o output 0) 0 < 18446744073709551616) outs fits in
    let told = needs_told m g.met.B.Block.laws s c.args.table.now masks rule wired output on_sheet small in
    let listed = subst (λ (o : List ℕ). NeedsTold m s c.args.table.now output (get_or masks (get_or o output 0) 0)) (sym outs) told in
    (size, number, subst (λ (k : ℕ). NeedsTold m s c.args.table.now output (get_or masks k 0)) (sym row) listed)

use Rattle.std.proofs.Common.{◌≡◌, ℕ, List, length, sym, refl, ap, subst, rules}
use Rattle.block.specs.Of.{meaning}
use Rattle.sheet.specs.declared.row.Row.{Row}
use Rattle.station.specs.Calls.{Scan, Steps, Stops, Leaves, effect, scan_answer}
use Rattle.station.specs.Outputs.{Shows}
use Rattle.station.specs.Scans.{at, on_in, Scanned}
use Rattle.station.proofs.Leaving.{scan_leaves, halt_leaves, nothing_leaves}
use Rattle.station.proofs.Promises.{goes_on}
use Rattle.station.proofs.station.Station.scan.Goals as goal

pub returns-in_err-image-clause-history : goal.returns-in_err-image-clause-history
returns-in_err-image-clause-history g c =
    let call = Scan (length c.args.table.now) c.args.image.now c.args.elapsed (length c.args.outputs.now) in
    let e : effect (Scan (length c.args.table.now) c.args.image.now c.args.elapsed (length c.args.outputs.now)) ≡ Leaves = search rules in
    let leaves = nothing_leaves (meaning g.B.Block) (effect call) c.args.self.now c.args.table.now c.args.outputs.now e in
    goes_on (meaning g.B.Block) g.met.B.Block.laws call _ _ _ _ _ _ leaves

pub returns-then-not-is_elapsed_allowed-clause-history : goal.returns-then-not-is_elapsed_allowed-clause-history
returns-then-not-is_elapsed_allowed-clause-history g c =
    let call = Scan (length c.args.table.now) c.args.image.now c.args.elapsed (length c.args.outputs.now) in
    let e : effect (Scan (length c.args.table.now) c.args.image.now c.args.elapsed (length c.args.outputs.now)) ≡ Stops = search rules in
    let leaves = halt_leaves (meaning g.B.Block) (effect call) c.args.self.now _ c.args.table.now _ c.args.outputs.now _ e c.idle.ensures in
    goes_on (meaning g.B.Block) g.met.B.Block.laws call _ _ _ _ _ _ leaves

pub returns : goal.returns
returns g c =
    let call = Scan (length c.args.table.now) c.args.image.now c.args.elapsed (length c.args.outputs.now) in
    let e : effect (Scan (length c.args.table.now) c.args.image.now c.args.elapsed (length c.args.outputs.now)) ≡ Steps c.args.image.now c.args.elapsed = search rules in
    let m = meaning g.B.Block in
    let same : c.in_ok-image.image.now ≡ c.args.image.now = search rules in
    let scanned = subst (λ (i : List ℕ). Scanned m c.rows.result.now i c.args.self.now.last c.args.elapsed (at m c.args.table.now) (at m c.scan_rows.new.table)) same c.scan_rows.ensures in
    let leaves =
    scan_leaves m (effect call) c.args.image.now c.args.elapsed c.args.self.now _ c.args.table.now c.scan_rows.new.table c.args.outputs.now c.show.new.bytes e (record {
      wiring = refl;
      last = search rules;
      table = subst (λ (r : List Row). Scanned m r c.args.image.now c.args.self.now.last c.args.elapsed (at m c.args.table.now) (at m c.scan_rows.new.table)) c.rows.ensures.rows scanned;
      blocks = search rules;
      outputs = subst (λ (o : List ℕ). Shows o (on_in m (at m c.scan_rows.new.table)) c.show.new.bytes) c.outs.ensures.outs c.show.ensures;
      bytes = search rules;
    })
    in
    record { answer = sym (ap scan_answer e); leaves = leaves; history = goes_on (meaning g.B.Block) g.met.B.Block.laws call _ _ _ _ _ _ leaves }

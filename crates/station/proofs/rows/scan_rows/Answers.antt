use Rattle.std.proofs.Common.{◌<◌, length, take, ap, ◌∙◌, rules}
use Rattle.std.proofs.lemmas.List.{get_or_read}
use Rattle.block.specs.Of.{meaning}
use Rattle.station.specs.Scans.{at, on_in}
use Rattle.sheet.specs.declared.row.Row.{Row}
use Rattle.station.specs.Rows.{input_of, row_at}
use Rattle.station.proofs.Local.{input_earlier, scan_more}
use Rattle.station.proofs.rows.scan_rows.Goals as goal

pub loop-k-preserved : goal.loop-k-preserved
loop-k-preserved g c =
    let m = meaning g.B.Block in
    let t = c.loop-k.table in
    let k = c.loop-k.k in
    let within : k < length t = search rules in
    let rows = c.args.rows.now in
    let on_sheet : k < length rows = search rules in
    let seen = on_in m (at m (take k t)) in
    let given = c.input-input.ensures ∙ ap (λ (r : Row). input_of c.args.image.now c.args.last.now c.args.elapsed seen r) (get_or_read rows k _ on_sheet c.index-rows-k.is _) ∙ input_earlier m t k c.args.image.now c.args.last.now c.args.elapsed (row_at rows k) (c.requires.wired k on_sheet) in
    scan_more m rows c.args.image.now c.args.last.now c.args.elapsed (at m c.args.table.now) t k c.step.result
    c.requires.wired on_sheet within c.loop-k.invariant.0 c.loop-k.invariant.1 (search (rules, get_or_read))

use Rattle.std.proofs.Common.{◌≡◌, ◌<◌, true, eqb, ltb, leb, List, length, subst, ◌∙◌, take, get_or, get_or-take, rules}
use Rattle.std.proofs.lemmas.Bool.{le-leb}
use Rattle.block.specs.Of.{meaning}
use Rattle.sheet.specs.declared.row.Row.{Row}
use Rattle.station.specs.Image.{table_size}
use Rattle.station.specs.Reads.{report_place, ReportTold}
use Rattle.station.specs.Reports.{Written, report_text}
use Rattle.station.specs.Rows.{blank_setup}
use Rattle.station.proofs.Reading.{reads}
use Rattle.station.proofs.station.Station.report.Goals as goal

pub returns-then-table-ne32-clause-history : goal.returns-then-table-ne32-clause-history
returns-then-table-ne32-clause-history g c = reads (meaning g.B.Block) g.met.B.Block.laws c.args.self.now c.args.table.now

pub returns-then-place-lt54-clause-history : goal.returns-then-place-lt54-clause-history
returns-then-place-lt54-clause-history g c = reads (meaning g.B.Block) g.met.B.Block.laws c.args.self.now c.args.table.now

pub returns-clause-history : goal.returns-clause-history
returns-clause-history g c = reads (meaning g.B.Block) g.met.B.Block.laws c.args.self.now c.args.table.now

pub returns-clause-answer : goal.returns-clause-answer
returns-clause-answer g c =
    let size : eqb (length c.args.table.now) table_size ≡ true = search rules in
    let here : ltb c.args.row (length c.rows.result.now) ≡ true = search rules in
    let m = meaning g.B.Block in
    let t = c.args.table.now in
    let k = c.args.row in
    let number = subst (λ (r : List Row). ltb c.args.row (length r) ≡ true) c.rows.ensures.rows here in
    let room : leb report_place (length c.args.place.now) ≡ true = le-leb report_place (length c.args.place.now) c.if-place-lt54.false in
    let on_sheet : k < length c.rows.result.now = search rules in
    let got : c.in_ok-block.block.now ≡ get_or (take (length c.rows.result.now) t) k (m.made blank_setup) = search rules in
    let block = got ∙ get_or-take (length c.rows.result.now) t k (m.made blank_setup) on_sheet in
    let told : ReportTold m t k c.write_report.result c.args.place.now c.write_report.new.place = record {
      written = subst (λ (b : g.row.B.Denot). Written (report_text m k b) c.args.place.now c.write_report.new.place) block c.write_report.ensures.written;
      length = subst (λ (b : g.row.B.Denot). c.write_report.result ≡ length (report_text m k b)) block c.write_report.ensures.length;
    } in
    (size, number, room, told)

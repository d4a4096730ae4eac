use Rattle.std.proofs.Common.{◌≡◌, take, drop, replicate, Err, arith, rules}
use Rattle.block.specs.Of.{meaning}
use Rattle.desk.proofs.Held.{place_room, report_held}
use Rattle.desk.proofs.report.Report.of_row.Goals as goal

pub returns-in_err-size-clause-answer : goal.returns-in_err-size-clause-answer
returns-in_err-size-clause-answer g c =
    let refused : c.from_residual.result ≡ Err c.in_err-size.field-0.0 = search rules in
    rw refused (record {
      place = take c.min-room.result (replicate 64 0);
      place' = c.report.new.place;
      room = place_room c.args.size c.min-room.result (omega arith);
      outcome = c.in_err-size.ensures.answer;
      bytes = tt;
    })

pub returns-clause-answer : goal.returns-clause-answer
returns-clause-answer g c = record {
  place = take c.min-room.result (replicate 64 0);
  place' = c.report.new.place;
  room = place_room c.args.size c.min-room.result (omega arith);
  outcome = c.in_ok-size.ensures.answer;
  bytes = report_held (meaning g.B.Block) c.args.station.now c.args.table.now c.args.row c.in_ok-size.size (take c.min-room.result (replicate 64 0)) c.report.new.place (drop c.min-room.result (replicate 64 0)) c.in_ok-size.ensures.answer;
}

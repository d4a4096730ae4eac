use Rattle.std.proofs.Common.{◌≤◌, List, length, sym, subst, rules}
use Rattle.sheet.specs.declared.row.Row.{Row}
use Rattle.station.specs.Image.{table_size}
use Rattle.station.specs.Wires.{Wired}
use Rattle.station.proofs.Wiring.{wiring_wired, wiring_few}
use Rattle.station.proofs.station.Station.rows.Goals as goal

pub returns-in-Some : goal.returns-in-Some
returns-in-Some c =
    let w = c.in-Some.wiring in
    let same = sym c.rows.ensures.rows in
    record {
      rows = search rules;
      wired = subst Wired same (wiring_wired w);
      few = subst (λ (r : List Row). length r ≤ table_size) same (wiring_few w);
    }

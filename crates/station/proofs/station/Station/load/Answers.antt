use Rattle.std.proofs.Common.{◌≡◌, true, false, length, Err, refl, rules}
use Rattle.block.specs.Of.{meaning}
use Rattle.station.specs.declared.refusal.LoadRefusal.TheVariants.{Sheet}
use Rattle.station.specs.Calls.{sizes_allowed}
use Rattle.station.specs.Image.{no_outputs}
use Rattle.station.proofs.Loading.{load_refused, load_begins}
use Rattle.station.proofs.station.Station.load.Goals as goal

pub returns-then-not-are_sizes_allowed : goal.returns-then-not-are_sizes_allowed
returns-then-not-are_sizes_allowed g c =
    let sizes : sizes_allowed (length c.args.table.now) (length c.args.outputs.now) ≡ false = search rules in
    (sizes, load_refused (meaning g.B.Block) g.met.B.Block.laws c.args.self.now c.args.table.now c.args.outputs.now)

pub returns-in_err-wiring : goal.returns-in_err-wiring
returns-in_err-wiring g c =
    let sizes : sizes_allowed (length c.args.table.now) (length c.args.outputs.now) ≡ true = search rules in
    let is : c.from_residual.result ≡ Err (Sheet c.in_err-wiring.field-0.0) = search rules in
    rw is (sizes, c.in_err-wiring.ensures.verdict, load_refused (meaning g.B.Block) g.met.B.Block.laws c.args.self.now c.args.table.now c.args.outputs.now)

pub returns : goal.returns
returns g c =
    let sizes : sizes_allowed (length c.args.table.now) (length c.args.outputs.now) ≡ true = search rules in
    let off : c.fill.new.self ≡ no_outputs = search rules in (
      sizes,
      record {
        wiring = c.in_ok-wiring.wiring;
        written = c.in_ok-wiring.ensures.verdict;
        loaded = refl;
        last = refl;
        table = c.fill_rows.ensures;
        blocks = search rules;
        outputs = off;
        begins = load_begins (meaning g.B.Block) g.met.B.Block.laws c.in_ok-wiring.wiring _ c.args.table.now c.fill_rows.new.table c.args.outputs.now c.fill.new.self sizes refl refl c.fill_rows.ensures (search rules) off;
      },
    )

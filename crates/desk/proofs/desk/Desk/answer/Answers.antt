use Rattle.std.proofs.Common.{◌≡◌, ℕ, min, List, length, Some, refl, ap, rules}
use Rattle.block.specs.Laws.{StepLaws}
use Rattle.block.specs.Of.{meaning}
use Rattle.desk.proofs.Lent.{rest_after, same_count}
use Rattle.desk.proofs.Pastings.{call_goes_on}
use Rattle.desk.proofs.Serving.{returned, called_first}
use Rattle.desk.proofs.desk.Desk.answer.Given as given
use Rattle.desk.proofs.desk.Desk.answer.Goals as goal

laws : (g : given.Over) → StepLaws (meaning g.B.Block)
laws g = search rules

pub returns : goal.returns
returns g c =
    let m = meaning g.B.Block in
    let d = c.args.self.now in
    let t = c.args.table.now in
    let o = c.args.outputs.now in
    let k = c.min-blocks.result in
    let j = c.min-bytes.result in
    let t₁ = c.call_station-reply.new.table in
    let o₁ = c.call_station-reply.new.outputs in
    let ke : c.min-blocks.result ≡ min c.args.self.now.blocks (length c.args.table.now) = search rules in
    let je : c.min-bytes.result ≡ min c.args.self.now.bytes (length c.args.outputs.now) = search rules in
    let kl : length c.call_station-reply.new.table ≡ c.min-blocks.result = search rules in
    let jl : length c.call_station-reply.new.outputs ≡ c.min-bytes.result = search rules in
    let called = called_first m c.args.call.now c.call_station-reply.result d.station c.call_station-reply.new.station d.blocks k t t₁ d.bytes j o o₁ ke kl je jl c.call_station-reply.ensures in
    let table = rest_after d.blocks k t ke t₁ kl in
    let outputs = rest_after d.bytes j o je o₁ jl in
    record {
      served = record {
        reply = c.call_station-reply.result;
        answer = ap (λ (x : List ℕ). Some (record { reply = c.call_station-reply.result; outputs = x })) c.shown.ensures;
        outcome = called.outcome;
        table = table;
        outputs = outputs;
        blocks = refl;
        bytes = refl;
      };
      past = call_goes_on m (laws g) c.args.call.now c.call_station-reply.result d _ t (returned k t t₁) o (returned j o o₁) called table outputs (same_count d.blocks k t ke t₁ kl) (same_count d.bytes j o je o₁ jl) c.shown.result;
    }

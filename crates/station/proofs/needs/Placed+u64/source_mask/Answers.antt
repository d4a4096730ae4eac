use Rattle.std.proofs.Common.{◌<◌, sym, ap, ◌∙◌, rules}
use Rattle.std.proofs.lemmas.Nat.{one_shl}
use Rattle.station.specs.Image.{bit_at}
use Rattle.station.specs.Masks.{masked}
use Rattle.station.specs.Needs.{source_needs}
use Rattle.station.proofs.Masks.{full_bit, power_bit}
use Rattle.station.proofs.needs.Placed+u64.source_mask.Goals as goal

pub returns-in-Zero : goal.returns-in-Zero
returns-in-Zero c t lt = full_bit t lt ∙ sym (ap (source_needs (masked c.args.self.now.earlier.now) t) c.in-Zero.is)

pub returns-in-Terminal : goal.returns-in-Terminal
returns-in-Terminal c t lt =
    let n = c.in-Terminal.terminal in
    let within : n < 64 = search rules in
    ap (λ x. bit_at x t) (one_shl n 64 within) ∙ power_bit n t ∙ sym (ap (source_needs (masked c.args.self.now.earlier.now) t) c.in-Terminal.is)

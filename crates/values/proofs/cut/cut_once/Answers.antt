use Rattle.std.proofs.Common.{◌≡◌, ◌≢◌, rules, tests}
use Rattle.std.proofs.lemmas.Iterator.{IsFirst-from_position, YieldsList-from_slice}
use Rattle.std.proofs.lemmas.Slice.{between_to_end}
use Rattle.values.proofs.Cutting.{cut_first, cut_last}
use Rattle.values.proofs.cut.cut_once.Goals as goal

pub returns-in_err-i : goal.returns-in_err-i
returns-in_err-i c =
    let none = IsFirst-from_position _ _ _ (λ b. b ≡ c.args.sep) (λ b. b ≢ c.args.sep) c.in_err-i.ensures.ran (YieldsList-from_slice c.args.s.now cc) (λ x q k. search (rules, tests)) (λ x q k. search (rules, tests)) in
    rw c.from_residual.ensures (cut_last c.args.sep c.args.s.now none)

pub returns : goal.returns
returns c =
    let at = IsFirst-from_position _ _ _ (λ b. b ≡ c.args.sep) (λ b. b ≢ c.args.sep) c.in_ok-i.ensures.ran (YieldsList-from_slice c.args.s.now cc) (λ x q k. search (rules, tests)) (λ x q k. search (rules, tests)) in
    let h = cut_first c.args.sep c.args.s.now c.in_ok-i.i at.0 at.1 at.2 in
    search (rules, between_to_end)

use Rattle.std.proofs.Common.{◌≡◌, ◌∷◌, length, ap, arith}
use Rattle.values.proofs.Cutting.{cut_cons}
use Rattle.script.proofs.words.cut_words.Goals as goal

pub returns-in-Some-cut_once-2 : goal.returns-in-Some-cut_once-2
returns-in-Some-cut_once-2 c =
    λ w ws e.
    let rest = c.in-Some.ensures.first in
    let third = c.in-Some-cut_once.ensures.first in
    let more = c.in-Some-cut_once-2.ensures.first in
    let last = cut_cons 32 c.in-Some-cut_once-2.field-0.1.now in
    let is : ws ≡ c.in-Some-cut_once.second.now ∷ c.in-Some-cut_once-2.field-0.0.now ∷ last.0 ∷ last.1 = cc last.2 in
    omega (arith, ap length is)

use Rattle.std.proofs.Common.{inl, inr, arith}
use Rattle.std.proofs.lemmas.Bool.{both_ways}
use Rattle.script.proofs.Lengths.{few_words}
use Rattle.script.proofs.read.read_line.Goals as goal

pub returns-in_err-first : goal.returns-in_err-first
returns-in_err-first c =
    rw c.from_residual.ensures
    (λ m says. elim says [
      | inl p ↦ both_ways _ c.if-is_passed_over.false (c.is_passed_over.ensures.1 p.0)
      | inr h ↦ omega (arith, few_words h.keyword h.after m h.means, c.in_err-first.ensures _ h.after h.words)
    ])

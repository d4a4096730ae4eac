use Rattle.std.proofs.Math.Nat.{two-pow-succ}
use Rattle.std.proofs.Common.{◌≡◌, ℕ, ◌+◌, ◌^◌, Bool, sym, ap, ◌∙◌, add-one, arith}
use Rattle.std.proofs.lemmas.Nat.{one_shl}
use Rattle.block.specs.Of.{meaning}
use Rattle.station.specs.Image.{bit_at}
use Rattle.station.specs.Outputs.{output_on}
use Rattle.station.specs.Scans.{at, on_in}
use Rattle.station.proofs.Bits.{bits_on, bits_off}
use Rattle.station.proofs.outputs.Outputs.byte.Goals as goal
use Rattle.station.proofs.outputs.Outputs.byte.Goals.{then-is_on, else-is_on}

pub loop-j-preserved : goal.loop-j-preserved
loop-j-preserved g c =
    let m = meaning g.B.Block in
    let j = c.loop-j.j in
    let x = c.loop-j.byte in
    let f : ℕ → Bool = λ u. output_on c.args.self.now.outs.now (on_in m (at m c.args.self.now.table.now)) (c.args.base + u) in
    let twice : 2 ^ (j + 1) ≡ 2 ^ j + 2 ^ j = ap (λ n. 2 ^ n) (add-one j) ∙ two-pow-succ j in
    elim c.if-is_on.branch [
      | then-is_on w ↦
          let more : c.if-is_on.byte ≡ x + 2 ^ j = w.byte-is ∙ ap (λ y. x + y) (one_shl j 8 c.loop-j-test.true) in
          (omega (arith, twice, c.loop-j.invariant.0), λ u lt. ap (λ y. bit_at y u) more ∙ bits_on f x j c.loop-j.invariant.0 c.loop-j.invariant.1 (sym c.is_on.ensures ∙ w.if-is_on.true) u lt)
      | else-is_on w ↦
          (omega (arith, twice, w.byte-is, c.loop-j.invariant.0), λ u lt. ap (λ y. bit_at y u) w.byte-is ∙ bits_off f x j c.loop-j.invariant.0 c.loop-j.invariant.1 (sym c.is_on.ensures ∙ w.if-is_on.false) u lt)
    ]

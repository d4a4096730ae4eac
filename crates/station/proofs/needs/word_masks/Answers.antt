use Rattle.std.proofs.Common.{◌≡◌, ℕ, ◌+◌, Bool, true, ◌&&◌, ◌↔◌, sym, ap, ◌∙◌, subst, arith}
use Rattle.block.specs.Of.{meaning}
use Rattle.station.specs.Image.{bit_at}
use Rattle.station.specs.Masks.{word_number, pins_cover}
use Rattle.station.proofs.Covers.{Every, every_clear, every_other}
use Rattle.station.proofs.Masks.{and_bit, full_bit}
use Rattle.station.proofs.needs.word_masks.Goals as goal
use Rattle.station.proofs.needs.word_masks.Goals.{then-is_clear, else-is_clear}

pub loop-n-init : goal.loop-n-init
loop-n-init g c t lt = (λ e j l. absurd (omega arith), λ all. full_bit t lt)

pub loop-n-preserved : goal.loop-n-preserved
loop-n-preserved g c t lt =
    let n = c.loop-n.n in
    let a = c.loop-n.all in
    let inner = (meaning g.B.Block).clear c.args.block.now in
    let clear : ℕ → Bool = λ j. inner (word_number j) in
    let cover : ℕ → Bool = λ j. pins_cover c.args.pins t (word_number j) in
    let word = c.word_of_number-word.ensures in
    let told : c.is_clear.result ≡ clear n = c.is_clear.ensures ∙ ap inner word in
    elim c.if-is_clear.branch [
      | then-is_clear w ↦
          let mask = w.word_mask-all.result in
          let bit : bit_at c.if-is_clear.all t ≡ (bit_at a t && bit_at mask t) = ap (λ y. bit_at y t) w.all-is ∙ and_bit a mask t in
          subst (λ (x : Bool). (x ≡ true) ↔ Every clear cover (n + 1)) (sym bit)
          (every_clear clear cover n (bit_at a t) (bit_at mask t) (c.loop-n.invariant t lt) (sym told ∙ w.if-is_clear.true) (w.word_mask-all.ensures t ∙ ap (pins_cover c.args.pins t) word))
      | else-is_clear w ↦
          subst (λ (x : ℕ). (bit_at x t ≡ true) ↔ Every clear cover (n + 1)) (sym w.all-is)
          (every_other clear cover n (bit_at a t) (c.loop-n.invariant t lt) (sym told ∙ w.if-is_clear.false))
    ]

pub returns : goal.returns
returns g c = let e : c.loop-n.n ≡ 16 = omega arith in rw e at c.loop-n.invariant

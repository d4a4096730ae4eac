-- A call on the first part of what lies on the desk.
use Rattle.std.proofs.Common.{◌≡◌, ℕ, min, List, ◌++◌, length, take, drop, None, sym, refl, subst}
use Rattle.block.specs.Laws.{StepLaws}
use Rattle.block.specs.Meaning.{Meaning}
use Rattle.station.specs.declared.station.Station.{Station}
use Rattle.desk.specs.declared.answer.Reply.{Reply}
use Rattle.desk.specs.declared.desk.Desk.{Desk}
use Rattle.desk.specs.declared.request.Call.{Call}
use Rattle.desk.specs.declared.request.Request.{Request}
use Rattle.desk.specs.declared.request.Request.TheVariants as request
use Rattle.desk.specs.Calls.{Called}
use Rattle.desk.specs.Desks.{Lends, Served, lent}
use Rattle.desk.specs.Pasts.{EveryPastGoesOn}
use Rattle.desk.proofs.Lent.{first_lent, first_after}
use Rattle.desk.proofs.Pastings.{lends_goes_on}

-- a list after its first part was lent and came back as ys
abbrev pub returned : {X : Type 0} → ℕ → List X → List X → List X
returned k xs ys = ys ++ drop k xs

module _ {B : Type 0} (m : Meaning B) where
  pub called_first : (c : Call) (a : Reply) (s s' : Station) (b k : ℕ) (t t₁ : List B) (n j : ℕ) (o o₁ : List ℕ)
      → k ≡ min b (length t) → length t₁ ≡ k → j ≡ min n (length o) → length o₁ ≡ j
      → Called m c a s s' (take k t) t₁ (take j o) o₁ → Called m c a s s' (lent b t) (lent b (returned k t t₁)) (lent n o) (lent n (returned j o o₁))
  called_first c a s s' b k t t₁ n j o o₁ ke kl je jl called =
      subst (λ (x : List B). Called m c a s s' x (lent b (returned k t t₁)) (lent n o) (lent n (returned j o o₁))) (first_lent b k t ke)
      (subst (λ (x : List B). Called m c a s s' (take k t) x (lent n o) (lent n (returned j o o₁))) (sym (first_after b k t ke t₁ kl))
      (subst (λ (x : List ℕ). Called m c a s s' (take k t) t₁ x (lent n (returned j o o₁))) (first_lent n j o je)
      (subst (λ (x : List ℕ). Called m c a s s' (take k t) t₁ (take j o) x) (sym (first_after n j o je o₁ jl)) called)))

  module _ (laws : StepLaws m) (d : Desk) (t : List B) (o : List ℕ) where
    -- what a request that is no call leaves
    pub record OnlyLends (r : Request) (d' : Desk) : Type 0 where
      pub served : Served m r None d d' t t o o
      pub past : EveryPastGoesOn m r None d d' t t o o

    pub lends_blocks : (r : Request) (n : ℕ) → r ≡ request.Blocks n → OnlyLends r (record { station = d.station; blocks = n; bytes = d.bytes })
    lends_blocks r n e =
        let d' : Desk = record { station = d.station; blocks = n; bytes = d.bytes } in
        let lends : Lends m n d.bytes None d d' t t o o = record { answer = refl; station = refl; table = refl; outputs = refl; lent_blocks = refl; lent_bytes = refl } in
        subst (λ (x : Request). OnlyLends x d') (sym e) (record { served = lends; past = lends_goes_on m laws (request.Blocks n) n d.bytes d d' t t o o refl lends })

    pub lends_bytes : (r : Request) (n : ℕ) → r ≡ request.Bytes n → OnlyLends r (record { station = d.station; blocks = d.blocks; bytes = n })
    lends_bytes r n e =
        let d' : Desk = record { station = d.station; blocks = d.blocks; bytes = n } in
        let lends : Lends m d.blocks n None d d' t t o o = record { answer = refl; station = refl; table = refl; outputs = refl; lent_blocks = refl; lent_bytes = refl } in
        subst (λ (x : Request). OnlyLends x d') (sym e) (record { served = lends; past = lends_goes_on m laws (request.Bytes n) d.blocks n d d' t t o o refl lends })

-- A form reads lines in one way only, and gives them one fault at most.
use Rattle.std.proofs.Common.{◌≡◌, ℕ, ◌+◌, List, [], ◌∷◌, Option, sym, ap, ◌∙◌, subst, inl, inr, arith}
use Rattle.std.proofs.lemmas.List.{append_cancel_left}
use Rattle.sheet.specs.declared.fault.WiringFault.{WiringFault}
use Rattle.sheet.specs.Due.{Asked, Due, Rule, fault_at, Reads, Keeps, FirstBroken, Faulty, Bad, Took}
use Rattle.sheet.specs.Form.{Form, done, line, Accepted, Refuses, Every}
use Rattle.sheet.specs.Lines.{Place, due}
use Rattle.sheet.proofs.Due.{some_same}
use Rattle.sheet.proofs.Forms.{place_same, after, accepted_took, accepted_rest}

-- a line's bytes after its key write one value
abbrev pub Unique : (V : Type 0) → Due V → Type 0
Unique V d = (v w : V) → d.plain v → d.plain w → d.body v ≡ d.body w → v ≡ w

keeps_all : {V : Type 0} (xs : List (Asked V)) (v : V) (q : Rule) → Keeps xs v → FirstBroken xs v q → ⊥
keeps_all [] v q k b = b
keeps_all (a ∷ xs) v q k (inl b) = b.0 k.0
keeps_all (a ∷ xs) v q k (inr b) = keeps_all xs v q k.1 b.1

same_rule : {V : Type 0} (xs : List (Asked V)) (v : V) (q r : Rule) → FirstBroken xs v q → FirstBroken xs v r → q ≡ r
same_rule [] v q r b c = absurd b
same_rule (a ∷ xs) v q r (inl b) (inl c) = b.1 ∙ sym c.1
same_rule (a ∷ xs) v q r (inl b) (inr c) = absurd (b.0 c.0)
same_rule (a ∷ xs) v q r (inr b) (inl c) = absurd (c.0 b.0)
same_rule (a ∷ xs) v q r (inr b) (inr c) = same_rule xs v q r b.1 c.1

tails : {l m : List ℕ} {ls ms k : List (List ℕ)} → k ≡ l ∷ ls → k ≡ m ∷ ms → ls ≡ ms
tails p q = cc

module _ {V : Type 0} (d : Due V) (u : Unique V d) where
  same_value : (l : Option (List ℕ)) (v w : V) → Reads d l v → Reads d l w → v ≡ w
  same_value l v w a b = u v w a.1 b.1 (append_cancel_left d.key (d.body v) (d.body w) (some_same a.0 b.0))

  module _ (p : Place) where
    took_value : (v w : V) (q r : Place) → Took d v p q → Took d w p r → v ≡ w
    took_value v w q r a b = same_value (due p.left) v w (a.next.due, a.plain) (b.next.due, b.plain)

    took_place : (v w : V) (q r : Place) → Took d v p q → Took d w p r → q ≡ r
    took_place v w q r a b = place_same (tails a.next.left b.next.left) (a.next.line ∙ sym b.next.line)

    not_faulty : (v : V) (q : Place) (r : Rule) → Took d v p q → Faulty d (due p.left) r → ⊥
    not_faulty v q r t (inl b) = b.0 v (t.next.due, t.plain)
    not_faulty v q r t (inr b) =
        let same = same_value (due p.left) v b.0 (t.next.due, t.plain) b.1 in
        keeps_all d.asks b.0 r (subst (Keeps d.asks) same t.keeps) b.2

    same_faulty : (q r : Rule) → Faulty d (due p.left) q → Faulty d (due p.left) r → q ≡ r
    same_faulty q r (inl a) (inl b) = a.1 ∙ sym b.1
    same_faulty q r (inl a) (inr b) = absurd (a.0 b.0 b.1)
    same_faulty q r (inr a) (inl b) = absurd (b.0 a.0 a.1)
    same_faulty q r (inr a) (inr b) =
        let same = same_value (due p.left) a.0 b.0 a.1 b.1 in
        same_rule d.asks b.0 q r (subst (λ z. FirstBroken d.asks z q) same a.2) b.2

    same_bad : (f g : WiringFault) → Bad d p f → Bad d p g → f ≡ g
    same_bad f g a b = a.fault ∙ ap (λ q. fault_at q (p.line + 1)) (same_faulty a.rule b.rule a.faulty b.faulty) ∙ sym b.fault

pub exclusive : {A : Type 0} (f : Form A) (a : A) (p q : Place) (g : WiringFault) → Every Unique f → Accepted f a p q → Refuses f p g → ⊥
exclusive (done b) a p q g u h r = r
exclusive (line d of next) a p q g u h (inl b) = not_faulty d u.0 p (of a) (after d of next a p q) b.rule (accepted_took d of next a p q h) b.faulty
exclusive (line d of next) a p q g u h (inr r) =
    let t = accepted_took d of next a p q h in
    let m = after d of next a p q in
    let value = took_value d u.0 p r.0 (of a) r.1 m r.2 t in
    let place = took_place d u.0 p r.0 (of a) r.1 m r.2 t in
    exclusive (next (of a)) a m q g (u.1 (of a)) (accepted_rest d of next a p q h) (subst (λ v. Refuses (next v) m g) value (subst (λ z. Refuses (next r.0) z g) place r.3))

pub same_fault : {A : Type 0} (f : Form A) (p : Place) (g h : WiringFault) → Every Unique f → Refuses f p g → Refuses f p h → g ≡ h
same_fault (done b) p g h u a c = absurd a
same_fault (line d of next) p g h u (inl a) (inl c) = same_bad d u.0 p g h a c
same_fault (line d of next) p g h u (inl a) (inr c) = absurd (not_faulty d u.0 p c.0 c.1 a.rule c.2 a.faulty)
same_fault (line d of next) p g h u (inr a) (inl c) = absurd (not_faulty d u.0 p a.0 a.1 c.rule a.2 c.faulty)
same_fault (line d of next) p g h u (inr a) (inr c) =
    let value = took_value d u.0 p c.0 a.0 c.1 a.1 c.2 a.2 in
    let place = took_place d u.0 p c.0 a.0 c.1 a.1 c.2 a.2 in
    same_fault (next a.0) a.1 g h (u.1 a.0) a.3 (subst (λ v. Refuses (next v) a.1 h) value (subst (λ z. Refuses (next c.0) z h) place c.3))

-- what two readings of the same lines share
pub record SameReading {A : Type 0} (a b : A) (q r : Place) : Type 0 where
  pub value : a ≡ b
  pub place : q ≡ r

pub same_reading : {A : Type 0} (f : Form A) (a b : A) (p q r : Place) → Every Unique f → Accepted f a p q → Accepted f b p r → SameReading a b q r
same_reading (done c) a b p q r u h g =
    record { value = sym h.lawful ∙ g.lawful; place = place_same (sym h.left ∙ g.left) (let x = h.line in let y = g.line in omega arith) }
same_reading (line d of next) a b p q r u h g =
    let s = accepted_took d of next a p q h in
    let t = accepted_took d of next b p r g in
    let value = took_value d u.0 p (of b) (of a) (after d of next b p r) (after d of next a p q) t s in
    let place = took_place d u.0 p (of b) (of a) (after d of next b p r) (after d of next a p q) t s in
    same_reading (next (of a)) a b (after d of next a p q) q r (u.1 (of a)) (accepted_rest d of next a p q h)
    (subst (λ v. Accepted (next v) b (after d of next a p q) r) value (subst (λ z. Accepted (next (of b)) b z r) place (accepted_rest d of next b p r g)))

-- Forms, one line or one part after the other.
use Rattle.std.proofs.Common.{◌≡◌, ℕ, ◌+◌, ◌⊎◌, List, [], ◌∷◌, ◌++◌, length, Some, sym, refl, ap, ◌∙◌, subst, inl, inr, append_assoc, arith, length-append}
use Rattle.sheet.specs.declared.fault.WiringFault.{WiringFault}
use Rattle.sheet.specs.Due.{Due, written, Took}
use Rattle.sheet.specs.Form.{Form, done, line, and_then, lines_of, Lawful, SomeLeft, Accepted, Refuses}
use Rattle.sheet.specs.Lines.{Place, due, Next}

pub place_same : {p q : Place} → p.left ≡ q.left → p.line ≡ q.line → p ≡ q
place_same a b = λ i. record { left = a i; line = b i }

never : ◌≡◌ {A = ℕ} 0 1 → ⊥
never h = omega arith

-- a good line before the one that is bad
pub past : {V B : Type 0} {d : Due V} {p q : Place} {v : V} {R : V → Place → Type 0} → Took d v p q → R v q → B ⊎ ((w : V) × (m : Place) × Took d w p m × R w m)
past {q} {v} t r = inr (v, q, t, r)

-- a line feed ended the line, so some piece follows
pub next_left : (l : List ℕ) (p q : Place) → Next l p q → SomeLeft q.left
next_left l p q h = go q.left (sym (ap due h.left) ∙ h.due)
  where
    go : (ls : List (List ℕ)) → due (l ∷ ls) ≡ Some l → SomeLeft ls
    go [] e = absurd (never cc)
    go (m ∷ ls) e = (m, ls, refl)

pub left_append : (ls ms : List (List ℕ)) → SomeLeft ms → SomeLeft (ls ++ ms)
left_append [] ms h = h
left_append (l ∷ ls) ms h = (l, ls ++ ms, refl)

module _ {V A : Type 0} (d : Due V) (of : A → V) (next : V → Form A) where
  pub line_accepted : (a : A) (p q r : Place) → Took d (of a) p q → Accepted (next (of a)) a q r → Accepted (line d of next) a p r
  line_accepted a p q r t h = record {
    lawful = (t.plain, t.keeps, h.lawful);
    left = t.next.left ∙ ap (λ z. written d (of a) ∷ z) h.left;
    ended = h.ended;
    line = let x = h.line in let y = t.next.line in omega arith;
  }

  -- where the first line of a form ends
  abbrev pub after : A → Place → Place → Place
  after a p q = record { left = lines_of (next (of a)) a ++ q.left; line = p.line + 1 }

  pub accepted_took : (a : A) (p q : Place) → Accepted (line d of next) a p q → Took d (of a) p (after a p q)
  accepted_took a p q h =
      let some = left_append (lines_of (next (of a)) a) q.left h.ended in
      let first : due (written d (of a) ∷ (lines_of (next (of a)) a ++ q.left)) ≡ Some (written d (of a)) = rw some.2 in
      record { plain = h.lawful.0; keeps = h.lawful.1; next = record { due = ap due h.left ∙ first; left = h.left; line = refl } }

  pub accepted_rest : (a : A) (p q : Place) → Accepted (line d of next) a p q → Accepted (next (of a)) a (after a p q) q
  accepted_rest a p q h = record { lawful = h.lawful.2; left = refl; ended = h.ended; line = let x = h.line in omega arith }

pub done_accepted : {A : Type 0} (a : A) (p : Place) → SomeLeft p.left → Accepted (done a) a p p
done_accepted a p s = record { lawful = refl; left = refl; ended = s; line = omega arith }

module _ {A B : Type 0} (part : B → A) (next : A → Form B) where
  pub then_lawful : (f : Form A) (b : B) → Lawful f (part b) → Lawful (next (part b)) b → Lawful (and_then f part next) b
  then_lawful (done a) b h g = subst (λ z. Lawful (next z) b) (sym h) g
  then_lawful (line d of more) b h g = (h.0, h.1, then_lawful (more (of (part b))) b h.2 g)

  pub then_lines : (f : Form A) (b : B) → Lawful f (part b) → lines_of (and_then f part next) b ≡ lines_of f (part b) ++ lines_of (next (part b)) b
  then_lines (done a) b h = ap (λ z. lines_of (next z) b) h
  then_lines (line d of more) b h = ap (λ z. written d (of (part b)) ∷ z) (then_lines (more (of (part b))) b h.2)

  pub then_accepted : (f : Form A) (b : B) (p q r : Place) → Accepted f (part b) p q → Accepted (next (part b)) b q r → Accepted (and_then f part next) b p r
  then_accepted f b p q r h g =
      let all = then_lines f b h.lawful in
      let sum = ap length all ∙ length-append (lines_of f (part b)) (lines_of (next (part b)) b) in
      record {
        lawful = then_lawful f b h.lawful g.lawful;
        left = h.left ∙ ap (λ z. lines_of f (part b) ++ z) g.left ∙ sym (append_assoc (lines_of f (part b)) (lines_of (next (part b)) b) r.left) ∙ ap (λ z. z ++ r.left) (sym all);
        ended = g.ended;
        line = let x = h.line in let y = g.line in omega arith;
      }

  pub refuses_left : (f : Form A) (p : Place) (g : WiringFault) → Refuses f p g → Refuses (and_then f part next) p g
  refuses_left (done a) p g h = absurd h
  refuses_left (line d of more) p g (inl h) = inl h
  refuses_left (line d of more) p g (inr h) = inr (h.0, h.1, h.2, refuses_left (more h.0) h.1 g h.3)

  pub refuses_right : (f : Form A) (a : A) (p q : Place) (g : WiringFault) → Accepted f a p q → Refuses (next a) q g → Refuses (and_then f part next) p g
  refuses_right (done c) a p q g h r =
      let same : p ≡ q = place_same h.left (let x = h.line in omega arith) in
      subst (λ z. Refuses (next z) p g) (sym h.lawful) (subst (λ z. Refuses (next a) z g) (sym same) r)
  refuses_right (line d of more) a p q g h r =
      inr (of a, after d of more a p q, accepted_took d of more a p q h, refuses_right (more (of a)) a (after d of more a p q) q g (accepted_rest d of more a p q h) r)

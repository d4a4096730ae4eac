-- A due line that is absent, malformed, broken or good.
use Rattle.std.proofs.Common.{◌≡◌, ℕ, ◌+◌, Bool, true, false, List, [], ◌∷◌, ◌++◌, Some, None, Option, Result, sym, refl, ap, ◌∙◌, subst, inl, inr}
use Rattle.std.specs.Option.{ok_or}
use Rattle.std.proofs.lemmas.List.{append_cancel_left}
use Rattle.values.specs.Parsed.{Parsed}
use Rattle.sheet.specs.declared.reader.Reader.{Reader}
use Rattle.sheet.specs.declared.fault.TextFault.{TextFault}
use Rattle.sheet.specs.declared.fault.TextFault.TheVariants.{Malformed}
use Rattle.sheet.specs.declared.fault.RowFault.TheVariants.{Text}
use Rattle.sheet.specs.declared.fault.WiringFault.{WiringFault}
use Rattle.sheet.specs.declared.fault.WiringFault.TheVariants.{Row}
use Rattle.sheet.specs.Due.{Asked, Due, Rule, malformed, outside, fault_at, asked, asking, Keeps, FirstBroken, Faulty, Bad, Took}
use Rattle.sheet.specs.Lines.{Place, Next}
use Rattle.sheet.specs.Reading.{at, HandsValue, NoValue}
use Rattle.sheet.specs.Steps.{ReadBy, no_line, unparsed, turned_down, taken, TextStep}

pub some_same : {A : Type 0} {o : Option A} {x y : A} → o ≡ Some x → o ≡ Some y → x ≡ y
some_same p q = cc

module _ {V : Type 0} (d : Due V) (p : Place) where
  pub missing : {f : TextFault} → NoValue d.key p f → Bad d p (Row (Text f))
  missing h = record { rule = malformed; faulty = inl (λ v s. h.none (d.body v) s.0, refl); fault = ap (λ x. Row (Text x)) h.fault }

  module _ (bytes : List ℕ) (n : ℕ) (q : Place) (h : HandsValue d.key bytes n p q) where
    line_is : n ≡ p.line + 1
    line_is = h.numbered ∙ h.next.line

    pub misread : ((v : V) → d.plain v → bytes ≡ d.body v → ⊥) → Bad d p (Row (Text (Malformed n)))
    misread none =
        let reads = h.next.due in
        record { rule = malformed; faulty = inl (λ v s. none v s.1 (append_cancel_left d.key bytes (d.body v) (some_same reads s.0)), refl); fault = ap (fault_at malformed) line_is }

    -- the value that was read breaks the rule r first
    pub broken : (v : V) (r : Rule) → d.plain v × (bytes ≡ d.body v) → FirstBroken d.asks v r → Bad d p (fault_at r n)
    broken v r w b = record { rule = r; faulty = inr (v, (h.next.due ∙ ap (λ z. Some (d.key ++ z)) w.1, w.0), b); fault = ap (fault_at r) line_is }

    pub took : (v : V) → d.plain v × (bytes ≡ d.body v) → Keeps d.asks v → Took d v p q
    took v w k = record { plain = w.0; keeps = k; next = subst (λ z. Next (d.key ++ z) p q) w.1 h.next }

-- what reading a value answers, once its parse and its test are known
module _ {V : Type 0} (d : Due V) (a b : Reader) where
  pub parsed_step : (bytes : List ℕ) (n : ℕ) → HandsValue d.key bytes n (at a) (at b) → d.asks ≡ [] → (o : Option V) → Parsed d.plain d.body bytes o → TextStep d a b (ok_or o (Malformed n))
  parsed_step bytes n h e None w = misread d (at a) bytes n (at b) h w
  parsed_step bytes n h e (Some v) w = took d (at a) bytes n (at b) h v w (subst (λ z. Keeps z v) (sym e) tt)

  module _ {parse : List ℕ → Option V → Type 0} {test : V → Bool → Type 0} where
    pub read_step : {r : Result V TextFault} → ReadBy parse test d.key (at a) (at b) r
        → ((bytes : List ℕ) (o : Option V) → parse bytes o → Parsed d.plain d.body bytes o)
        → ((v : V) → test v true → Keeps d.asks v)
        → ((v : V) → test v false → FirstBroken d.asks v outside)
        → TextStep d a b r
    read_step (no_line f h e) reads keeps breaks = rw e (missing d (at a) h)
    read_step (unparsed bytes n h p e) reads keeps breaks = rw e (misread d (at a) bytes n (at b) h (reads bytes None p))
    read_step (turned_down bytes n v h p t e) reads keeps breaks = rw e (broken d (at a) bytes n (at b) h v outside (reads bytes (Some v) p) (breaks v t))
    read_step (taken bytes n v h p t e) reads keeps breaks = rw e (took d (at a) bytes n (at b) h v (reads bytes (Some v) p) (keeps v t))

-- one rule more, which another layer looks at
broken_more : {V : Type 0} (xs : List (Asked V)) (a : Asked V) (v : V) (q : Rule) → FirstBroken xs v q → FirstBroken (xs ++ a ∷ []) v q
broken_more [] a v q b = absurd b
broken_more (c ∷ more) a v q (inl b) = inl b
broken_more (c ∷ more) a v q (inr b) = inr (b.0, broken_more more a v q b.1)

module _ {V : Type 0} (d : Due V) (r : Rule) (P : V → Type 0) (p : Place) where
  faulty_more : (l : Option (List ℕ)) (q : Rule) → Faulty d l q → Faulty (asking d r P) l q
  faulty_more l q (inl h) = inl h
  faulty_more l q (inr h) = inr (h.0, h.1, broken_more d.asks (asked r P) h.0 q h.2)

  pub asking_bad : {f : WiringFault} → Bad d p f → Bad (asking d r P) p f
  asking_bad b = record { rule = b.rule; faulty = faulty_more _ b.rule b.faulty; fault = b.fault }

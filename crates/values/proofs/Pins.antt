-- The four sources of a line, cut at its commas.
use Rattle.std.proofs.Common.{◌≡◌, ℕ, List, [], ◌∷◌, map, refl, ap, ◌∙◌, arith}
use Rattle.values.specs.declared.source.Source.{Source}
use Rattle.values.specs.Cut.{cut_at}
use Rattle.values.specs.Written.{source_text, pins_text, Short, FourShort}
use Rattle.values.proofs.Glue.{cut_join, alone}
use Rattle.values.proofs.Clear.{sources_clear}

pub record Four (s : List ℕ) (v : List Source) : Type 0 where
  pub a : Source
  pub b : Source
  pub c : Source
  pub d : Source
  pub is : v ≡ a ∷ b ∷ c ∷ d ∷ []
  pub short_a : Short a
  pub short_b : Short b
  pub short_c : Short c
  pub short_d : Short d
  pub cut : cut_at 44 s ≡ source_text a ∷ source_text b ∷ source_text c ∷ source_text d ∷ []

pub pins_cut : (s : List ℕ) (v : List Source) → FourShort v → s ≡ pins_text v → Four s v
pins_cut s [] h e = absurd (omega (arith, h.0))
pins_cut s (a ∷ []) h e = absurd (omega (arith, h.0))
pins_cut s (a ∷ b ∷ []) h e = absurd (omega (arith, h.0))
pins_cut s (a ∷ b ∷ c ∷ []) h e = absurd (omega (arith, h.0))
pins_cut s (a ∷ b ∷ c ∷ d ∷ []) h e =
    let each = h.1 in
    record {
      a = a;
      b = b;
      c = c;
      d = d;
      is = refl;
      short_a = each.0;
      short_b = each.1.0;
      short_c = each.1.1.0;
      short_d = each.1.1.1.0;
      cut = ap (cut_at 44) e ∙ cut_join 44 (source_text a) (map source_text (b ∷ c ∷ d ∷ [])) (sources_clear 44 (a ∷ b ∷ c ∷ d ∷ []) (omega arith));
    }
pins_cut s (a ∷ b ∷ c ∷ d ∷ f ∷ v) h e = absurd (omega (arith, h.0))

abbrev pub NoSource : List ℕ → Type 0
NoSource s = (v : Source) → Short v → s ≡ source_text v → ⊥

never : ◌≡◌ {A = ℕ} 0 1 → ⊥
never h = omega arith

-- what the text of four sources is not
module _ (s : List ℕ) (v : List Source) (h : FourShort v) (e : s ≡ pins_text v) where
  pub not_one : {a : List ℕ} → cut_at 44 s ≡ a ∷ [] → ⊥
  not_one p = let f = pins_cut s v h e in never cc

  pub not_two : {a b : List ℕ} (r : List ℕ) → cut_at 44 s ≡ a ∷ cut_at 44 r → cut_at 44 r ≡ b ∷ [] → ⊥
  not_two r p q = let f = pins_cut s v h e in never cc

  pub not_three : {a b c : List ℕ} (q r : List ℕ) → cut_at 44 s ≡ a ∷ cut_at 44 q → cut_at 44 q ≡ b ∷ cut_at 44 r → cut_at 44 r ≡ c ∷ [] → ⊥
  not_three q r p k l = let f = pins_cut s v h e in never cc

  pub not_first : {a : List ℕ} {more : List (List ℕ)} → cut_at 44 s ≡ a ∷ more → NoSource a → ⊥
  not_first p g = let f = pins_cut s v h e in g f.a f.short_a (cc)

  pub not_second : {a b : List ℕ} {bs : List (List ℕ)} (q : List ℕ) → cut_at 44 s ≡ a ∷ cut_at 44 q → cut_at 44 q ≡ b ∷ bs → NoSource b → ⊥
  not_second q p k g = let f = pins_cut s v h e in g f.b f.short_b (cc)

  pub not_third : {a b c : List ℕ} {cs : List (List ℕ)} (q r : List ℕ) → cut_at 44 s ≡ a ∷ cut_at 44 q → cut_at 44 q ≡ b ∷ cut_at 44 r → cut_at 44 r ≡ c ∷ cs → NoSource c → ⊥
  not_third q r p k l g = let f = pins_cut s v h e in g f.c f.short_c (cc)

  pub not_fourth : {a b c : List ℕ} (q r d : List ℕ) → cut_at 44 s ≡ a ∷ cut_at 44 q → cut_at 44 q ≡ b ∷ cut_at 44 r → cut_at 44 r ≡ c ∷ cut_at 44 d → NoSource d → ⊥
  not_fourth q r d p k l g = let f = pins_cut s v h e in g f.d f.short_d (alone 44 d (source_text f.d) (cc))

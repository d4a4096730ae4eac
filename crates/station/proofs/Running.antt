-- A list of calls, one call longer.
use Rattle.std.proofs.Common.{◌≡◌, ℕ, ◌+◌, ◌<◌, List, [], ◌∷◌, ◌++◌, map, length, get_or, take, sym, refl, ap, ◌∙◌, subst}
use Rattle.std.proofs.lemmas.List.{take_more}
use Rattle.block.specs.Meaning.{Meaning}
use Rattle.station.specs.declared.request.Request.{Request}
use Rattle.station.specs.declared.station.Station.{Station}
use Rattle.station.specs.Calls.{Call}
use Rattle.station.specs.Runs.{Called, Ran, call_of}

module _ {B : Type 0} (m : Meaning B) where
  ran_one : (c : Call) (s s₁ s₂ : Station) (t t₁ t₂ : List B) (o o₁ o₂ : List ℕ) → s₁ ≡ s → t₁ ≡ t → o₁ ≡ o → Called m c s₁ s₂ t₁ t₂ o₁ o₂ → Called m c s s₂ t t₂ o o₂
  ran_one c s s₁ s₂ t t₁ t₂ o o₁ o₂ p q r d =
      subst (λ (x : Station). Called m c x s₂ t t₂ o o₂) p (subst (λ (x : List B). Called m c s₁ s₂ x t₂ o o₂) q (subst (λ (x : List ℕ). Called m c s₁ s₂ t₁ t₂ x o₂) r d))

  ran_then : (cs : List Call) (c : Call) (s s₁ s₂ : Station) (t t₁ t₂ : List B) (o o₁ o₂ : List ℕ) → Ran m cs s s₁ t t₁ o o₁ → Called m c s₁ s₂ t₁ t₂ o₁ o₂ → Ran m (cs ++ (c ∷ [])) s s₂ t t₂ o o₂
  ran_then [] c s s₁ s₂ t t₁ t₂ o o₁ o₂ ran d = (s₂, t₂, o₂, ran_one c s s₁ s₂ t t₁ t₂ o o₁ o₂ ran.0 ran.1 ran.2 d, (refl, refl, refl))
  ran_then (b ∷ cs) c s s₁ s₂ t t₁ t₂ o o₁ o₂ ran d = (ran.0, ran.1, ran.2, ran.3, ran_then cs c ran.0 s₁ s₂ ran.1 t₁ t₂ ran.2 o₁ o₂ ran.4 d)

  map_then : (f : Request → Call) (xs : List Request) (x : Request) → map f (xs ++ (x ∷ [])) ≡ map f xs ++ (f x ∷ [])
  map_then f [] x = refl
  map_then f (y ∷ xs) x = ap (λ (l : List Call). f y ∷ l) (map_then f xs x)

  pub ran_more : (f : Request → Call) (rs : List Request) (i : ℕ) (d : Request) (s s₁ s₂ : Station) (t t₁ t₂ : List B) (o o₁ o₂ : List ℕ) → i < length rs → Ran m (map f (take i rs)) s s₁ t t₁ o o₁ → Called m (f (get_or rs i d)) s₁ s₂ t₁ t₂ o₁ o₂ → Ran m (map f (take (i + 1) rs)) s s₂ t t₂ o o₂
  ran_more f rs i d s s₁ s₂ t t₁ t₂ o o₁ o₂ lt ran called =
      let longer : map f (take (i + 1) rs) ≡ map f (take i rs) ++ (f (get_or rs i d) ∷ []) = ap (map f) (take_more rs i d lt) ∙ map_then f (take i rs) (get_or rs i d) in
      subst (λ (cs : List Call). Ran m cs s s₂ t t₂ o o₂) (sym longer) (ran_then (map f (take i rs)) (f (get_or rs i d)) s s₁ s₂ t t₁ t₂ o o₁ o₂ ran called)

  -- the same for a request on lent memory whose sizes did not change
  pub ran_request : (rs : List Request) (i : ℕ) (d : Request) (blocks bytes blocks₁ bytes₁ : ℕ) → blocks₁ ≡ blocks → bytes₁ ≡ bytes → (s s₁ s₂ : Station) (t t₁ t₂ : List B) (o o₁ o₂ : List ℕ)
      → i < length rs → Ran m (map (call_of blocks bytes) (take i rs)) s s₁ t t₁ o o₁ → Called m (call_of blocks₁ bytes₁ (get_or rs i d)) s₁ s₂ t₁ t₂ o₁ o₂ → Ran m (map (call_of blocks bytes) (take (i + 1) rs)) s s₂ t t₂ o o₂
  ran_request rs i d blocks bytes blocks₁ bytes₁ p q s s₁ s₂ t t₁ t₂ o o₁ o₂ lt ran called =
      ran_more (call_of blocks bytes) rs i d s s₁ s₂ t t₁ t₂ o o₁ o₂ lt ran
      (subst (λ (n : ℕ). Called m (call_of n bytes (get_or rs i d)) s₁ s₂ t₁ t₂ o₁ o₂) p (subst (λ (n : ℕ). Called m (call_of blocks₁ n (get_or rs i d)) s₁ s₂ t₁ t₂ o₁ o₂) q called))

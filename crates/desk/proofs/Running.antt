-- A list of requests, one request longer.
use Rattle.std.proofs.Common.{◌≡◌, ℕ, ◌+◌, ◌<◌, List, [], ◌++◌, length, get_or, take, Option, sym, refl, subst}
use Rattle.std.proofs.lemmas.Fn.{FoldsTo-push, chained_keeps}
use Rattle.std.proofs.lemmas.List.{take_more}
use Rattle.std.specs.List.{FoldsTo}
use Rattle.std.specs.Option.{option_to_list}
use Rattle.block.specs.Meaning.{Meaning}
use Rattle.desk.specs.declared.answer.Answer.{Answer}
use Rattle.desk.specs.declared.request.Request.{Request}
use Rattle.desk.specs.Desks.{Served}
use Rattle.desk.specs.Pasts.{Past, FitsPast, EveryPastGoesOn}
use Rattle.desk.specs.Runs.{Scene, Turn, KeptTurn, EveryKeptTurn, Ran}

chain_more : {R X : Type 0} (Step : X → R → X → Type 0) (rs : List R) (i : ℕ) (d : R) (x x₁ x₂ : X) → i < length rs → FoldsTo Step x (take i rs) x₁ → Step x₁ (get_or rs i d) x₂ → FoldsTo Step x (take (i + 1) rs) x₂
chain_more Step rs i d x x₁ x₂ lt chain step =
    subst (λ (l : List _). FoldsTo Step x l x₂) (sym (take_more rs i d lt)) (FoldsTo-push Step x (take i rs) x₁ (get_or rs i d) x₂ chain step)

module _ {B : Type 0} (m : Meaning B) where
  -- a request that was served and noted, after every past
  pub kept_turn : (r : Request) (x x' : Scene B) (a : Option Answer) → x'.answers ≡ x.answers ++ option_to_list a → Served m r a x.desk x'.desk x.table x'.table x.outputs x'.outputs
      → EveryPastGoesOn m r a x.desk x'.desk x.table x'.table x.outputs x'.outputs → EveryKeptTurn m r x x'
  kept_turn r x x' a added served past p fits =
      let next = past p fits in
      (next.0, record { turn = record { answer = a; added = added; served = served }; past = next.1 })

  pub ran_none : (x : Scene B) → Ran m [] x x
  ran_none x = record { turns = refl; kept = λ p fits. (p, refl) }

  -- the past fits after every request
  kept_fits : (rs : List Request) (p p' : Past) (x x' : Scene B) → FitsPast m p x.desk x.table x.outputs → FoldsTo (λ y r y'. KeptTurn m r y y') (p, x) rs (p', x') → FitsPast m p' x'.desk x'.table x'.outputs
  kept_fits rs p p' x x' fits chain = chained_keeps (λ y r y'. KeptTurn m r y y') (λ _ (y : Past × Scene B). FitsPast m y.0 y.1.desk y.1.table y.1.outputs) (λ _ _ _ _ _ kept. kept.past.fits) rs (p, x) (p', x') fits chain

  -- one more request, read at its place
  pub ran_more : (rs : List Request) (i : ℕ) (r : Request) (x x₁ x₂ : Scene B) → i < length rs → r ≡ get_or rs i r → Ran m (take i rs) x x₁ → Turn m r x₁ x₂
      → EveryKeptTurn m r x₁ x₂ → Ran m (take (i + 1) rs) x x₂
  ran_more rs i r x x₁ x₂ lt is ran turn past = record {
    turns = chain_more (λ y r y'. Turn m r y y') rs i r x x₁ x₂ lt ran.turns (subst (λ (q : Request). Turn m q x₁ x₂) is turn);
    kept = λ p fits.
        let k = ran.kept p fits in
        let next = past k.0 (kept_fits (take i rs) p k.0 x x₁ fits k.1) in
        (next.0, chain_more (λ y r y'. KeptTurn m r y y') rs i r (p, x) (k.0, x₁) (next.0, x₂) lt k.1 (subst (λ (q : Request). KeptTurn m q (k.0, x₁) (next.0, x₂)) is next.1));
  }

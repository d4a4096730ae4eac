-- What a call does, one of three.
use Rattle.std.proofs.Common.{◌≡◌, ℕ, ◌⊎◌, List, refl, inl, inr}
use Rattle.station.specs.Calls.{Call, Effect, Steps, Stops, Leaves, effect}

-- an accepted scan, with its image and elapsed time
pub record Accepted (c : Call) : Type 0 where
  pub image : List ℕ
  pub elapsed : ℕ
  pub steps : effect c ≡ Steps image elapsed

pub cases_effect : (c : Call) → Accepted c ⊎ ((effect c ≡ Stops) ⊎ (effect c ≡ Leaves))
cases_effect c = go (effect c) refl
  where
    go : (e : Effect) → effect c ≡ e → Accepted c ⊎ ((effect c ≡ Stops) ⊎ (effect c ≡ Leaves))
    go (Steps image elapsed) p = inl (record { image = image; elapsed = elapsed; steps = p })
    go Stops p = inr (inl p)
    go Leaves p = inr (inr p)

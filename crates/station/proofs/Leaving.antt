-- What a call leaves, by its effect.
use Rattle.std.proofs.Common.{◌≡◌, ℕ, List, sym, refl, subst}
use Rattle.block.specs.Meaning.{Meaning}
use Rattle.station.specs.declared.station.Station.{Station}
use Rattle.station.specs.Calls.{Effect, Steps, Stops, Leaves}
use Rattle.station.specs.Stations.{ScanLeaves, HaltLeaves, CallLeaves}

pub scan_leaves : {B : Type 0} (m : Meaning B) (x : Effect) (image : List ℕ) (elapsed : ℕ) (s s' : Station) (t t' : List B) (o o' : List ℕ) → x ≡ Steps image elapsed → ScanLeaves m image elapsed s s' t t' o o' → CallLeaves m x s s' t t' o o'
scan_leaves m x image elapsed s s' t t' o o' e d = subst (λ (y : Effect). CallLeaves m y s s' t t' o o') (sym e) d

pub halt_leaves : {B : Type 0} (m : Meaning B) (x : Effect) (s s' : Station) (t t' : List B) (o o' : List ℕ) → x ≡ Stops → HaltLeaves m s s' t t' o o' → CallLeaves m x s s' t t' o o'
halt_leaves m x s s' t t' o o' e d = subst (λ (y : Effect). CallLeaves m y s s' t t' o o') (sym e) d

pub nothing_leaves : {B : Type 0} (m : Meaning B) (x : Effect) (s : Station) (t : List B) (o : List ℕ) → x ≡ Leaves → CallLeaves m x s s t t o o
nothing_leaves m x s t o e = subst (λ (y : Effect). CallLeaves m y s s t t o o) (sym e) (record { wiring = refl; last = refl; table = refl; outputs = refl })

-- What a list of calls leaves: a chain of single calls.
use Rattle.std.specs.Prelude.{◌≡◌, ℕ, List, [], ◌∷◌}
use Rattle.block.specs.Meaning.{Meaning}
use Rattle.station.specs.declared.request.Request.{Request}
use Rattle.station.specs.declared.request.Request.TheVariants as request
use Rattle.station.specs.declared.station.Station.{Station}
use Rattle.station.specs.Calls.{Call, Scan, Halt, effect}
use Rattle.station.specs.Promises.{GoesOn}
use Rattle.station.specs.Stations.{CallLeaves}

-- the call that a request makes, on so many blocks and output bytes
abbrev pub call_of : (blocks bytes : ℕ) → Request → Call
call_of blocks bytes (request.Scan image elapsed) = Scan blocks image elapsed bytes
call_of blocks bytes request.Halt = Halt blocks bytes

-- one call: what it leaves, and that every history goes on through it with both promises
pub record Called {B : Type 0} (m : Meaning B) (c : Call) (s s' : Station) (t t' : List B) (o o' : List ℕ) : Type 0 where
  pub leaves : CallLeaves m (effect c) s s' t t' o o'
  pub history : GoesOn m c s s' t t' o o'

-- the calls one after the other: between them the station, table and output bytes are those that the last call left
abbrev pub Ran : {B : Type 0} → Meaning B → List Call → (s s' : Station) (t t' : List B) (o o' : List ℕ) → Type 0
Ran m [] s s' t t' o o' = (s' ≡ s) × (t' ≡ t) × (o' ≡ o)
Ran {B} m (c ∷ cs) s s'' t t'' o o'' = (s' : Station) × (t' : List B) × (o' : List ℕ) × Called m c s s' t t' o o' × Ran m cs s' s'' t' t'' o' o''

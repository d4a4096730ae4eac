-- What has happened at a desk, and what holds after it.
use Rattle.std.specs.Prelude.{◌≡◌, ℕ, Bool, false, List, [], ◌∷◌, ◌++◌, length, take, Some, None, vec_items, MatchBool, Option}
use Rattle.block.specs.Meaning.{Meaning}
use Rattle.desk.specs.declared.answer.Answer.{Answer}
use Rattle.desk.specs.declared.desk.Desk.{Desk}
use Rattle.desk.specs.declared.request.Call.TheVariants.{Load, Command}
use Rattle.desk.specs.declared.request.Request.{Request}
use Rattle.desk.specs.declared.request.Request.TheVariants as request
use Rattle.desk.specs.Calls.{accepted, as_history}
use Rattle.desk.specs.Desks.{lent}
use Rattle.sheet.specs.declared.wiring.Wiring.{Wiring}
use Rattle.sheet.specs.Loads.{text}
use Rattle.station.specs.Histories.{History, FollowsRules, Fits}
use Rattle.station.specs.Image.{table_size, outputs_size}
use Rattle.station.specs.Promises.{Promised}

-- no loading was accepted yet, or the last one that was, with the history since
pub data Past : Type 0 where
  Fresh : Past
  Since : (w : Wiring) (h : History) → Past

abbrev pub longer : History → Past → Past
longer calls Fresh = Fresh
longer calls (Since w h) = Since w (calls ++ h)

-- an accepted loading begins a history
abbrev pub begins : Option Answer → Bool
begins None = false
begins (Some a) = accepted a.reply

abbrev pub Begins : Request → Past → Type 0
Begins (request.Call (Load sheet)) p = (w : Wiring) × (vec_items sheet ≡ text w) × (p ≡ Since w [])
Begins (request.Call (Command c)) p = ⊥
Begins (request.Blocks n) p = ⊥
Begins (request.Bytes n) p = ⊥

-- the calls of a history that a request makes
abbrev pub calls_of : {B : Type 0} → Request → Desk → List B → List ℕ → History
calls_of (request.Call c) d t o = as_history c (length (lent d.blocks t)) (length (lent d.bytes o)) ∷ []
calls_of (request.Blocks n) d t o = []
calls_of (request.Bytes n) d t o = []

-- from p to p' by a request that was answered so
abbrev pub PastGrows : {B : Type 0} → Request → Option Answer → Desk → List B → List ℕ → (p p' : Past) → Type 0
PastGrows r a d t o p p' = MatchBool (begins a) (Begins r p') (p' ≡ longer (calls_of r d t o) p)

-- what lies on the desk is as the past leaves it: the station's own table are the first 32 blocks, its outputs the first two bytes
abbrev pub FitsPast : {B : Type 0} → Meaning B → Past → Desk → List B → List ℕ → Type 0
FitsPast m Fresh d t o = d.station.wiring ≡ None
FitsPast {B} m (Since w h) d t o = (f : History → ℕ → B) → FollowsRules m w f → Fits m w f h d.station (take table_size t) (take outputs_size o)

-- and the promises hold: what an output that is on needs was on in the last accepted scan, and a latched row is on exactly by a release that stands
abbrev pub KeepsPromises : {B : Type 0} → Meaning B → Past → List B → List ℕ → Type 0
KeepsPromises m Fresh t o = Unit {0}
KeepsPromises {B} m (Since w h) t o = (f : History → ℕ → B) → FollowsRules m w f → Promised m w f h (take table_size t) (take outputs_size o)

-- a request takes every past that fits on
pub record PastGoesOn {B : Type 0} (m : Meaning B) (r : Request) (a : Option Answer) (d d' : Desk) (t t' : List B) (o o' : List ℕ) (p p' : Past) : Type 0 where
  pub grows : PastGrows r a d t o p p'
  pub fits : FitsPast m p' d' t' o'
  pub promised : KeepsPromises m p' t' o'

-- each past that fits what a request finds goes on to one that fits what it leaves
abbrev pub EveryPastGoesOn : {B : Type 0} → Meaning B → Request → Option Answer → (d d' : Desk) (t t' : List B) (o o' : List ℕ) → Type 0
EveryPastGoesOn m r a d d' t t' o o' = (p : Past) → FitsPast m p d t o → (p' : Past) × PastGoesOn m r a d d' t t' o o' p p'

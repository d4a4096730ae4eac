-- A list of requests, served one after the other.
use Rattle.std.specs.Prelude.{◌≡◌, ℕ, List, ◌++◌, Ok, Err, Option, Result}
use Rattle.std.specs.declared.alloc.AllocError.{AllocError}
use Rattle.std.specs.List.{FoldsTo}
use Rattle.std.specs.Option.{option_to_list}
use Rattle.block.specs.Meaning.{Meaning}
use Rattle.desk.specs.declared.answer.Answer.{Answer}
use Rattle.desk.specs.declared.desk.Desk.{Desk}
use Rattle.desk.specs.declared.request.Request.{Request}
use Rattle.desk.specs.Desks.{Served}
use Rattle.desk.specs.Pasts.{Past, FitsPast, PastGoesOn}

-- the desk with what lies on it, and the answers so far
pub record Scene (B : Type 0) : Type 0 where
  pub desk : Desk
  pub table : List B
  pub outputs : List ℕ
  pub answers : List Answer

abbrev pub scene : {B : Type 0} → Desk → List B → List ℕ → List Answer → Scene B
scene d t o xs = record { desk = d; table = t; outputs = o; answers = xs }

module _ {B : Type 0} (m : Meaning B) where
  -- one request, whose answer is added
  pub record Turn (r : Request) (x x' : Scene B) : Type 0 where
    pub answer : Option Answer
    pub added : x'.answers ≡ x.answers ++ option_to_list answer
    pub served : Served m r answer x.desk x'.desk x.table x'.table x.outputs x'.outputs

  -- one request after a past: both promises hold when it is served
  pub record KeptTurn (r : Request) (x x' : Past × Scene B) : Type 0 where
    pub turn : Turn r x.1 x'.1
    pub past : PastGoesOn m r turn.answer x.1.desk x'.1.desk x.1.table x'.1.table x.1.outputs x'.1.outputs x.0 x'.0

  -- the same after every past that fits
  abbrev pub EveryKeptTurn : (r : Request) (x x' : Scene B) → Type 0
  EveryKeptTurn r x x' = (p : Past) → FitsPast m p x.desk x.table x.outputs → (p' : Past) × KeptTurn r (p, x) (p', x')

  -- all requests are served in order, and the promises hold after each, whatever past the desk had
  pub record Ran (rs : List Request) (x x' : Scene B) : Type 0 where
    pub turns : FoldsTo (λ y r y'. Turn r y y') x rs x'
    pub kept : (p : Past) → FitsPast m p x.desk x.table x.outputs → (p' : Past) × FoldsTo (λ y r y'. KeptTurn r y y') (p, x) rs (p', x')

  -- want of memory leaves all as found
  pub record Unserved (d d' : Desk) (t t' : List B) (o o' : List ℕ) (xs xs' : List Answer) : Type 0 where
    pub desk : d' ≡ d
    pub table : t' ≡ t
    pub outputs : o' ≡ o
    pub answers : xs' ≡ xs

  abbrev pub RunOutcome : Result (Unit {0}) AllocError → List Request → (d d' : Desk) (t t' : List B) (o o' : List ℕ) (xs xs' : List Answer) → Type 0
  RunOutcome (Ok x) rs d d' t t' o o' xs xs' = Ran rs (scene d t o xs) (scene d' t' o' xs')
  RunOutcome (Err e) rs d d' t t' o o' xs xs' = Unserved d d' t t' o o' xs xs'

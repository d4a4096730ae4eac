-- What a request at a desk leaves of the station and of the memory beside it.
use Rattle.std.specs.Prelude.{◌≡◌, ℕ, List, [], ◌∷◌, take, drop, Some, None, Option, slice_index}
use Rattle.block.specs.Meaning.{Meaning}
use Rattle.desk.specs.declared.answer.Answer.{Answer}
use Rattle.desk.specs.declared.answer.Reply.{Reply}
use Rattle.desk.specs.declared.desk.Desk.{Desk}
use Rattle.desk.specs.declared.request.Call.{Call}
use Rattle.desk.specs.declared.request.Request.{Request}
use Rattle.desk.specs.declared.request.Request.TheVariants as request
use Rattle.desk.specs.Calls.{Outcome}

-- a call is lent the first n of what lies on the desk; all where there are fewer
abbrev pub lent : {X : Type 0} → ℕ → List X → List X
lent n xs = take n xs

-- and keeps the others
abbrev pub KeepsRest : {X : Type 0} → ℕ → (xs xs' : List X) → Type 0
KeepsRest n xs xs' = drop n xs' ≡ drop n xs

-- the first two output bytes; 0 for one that the desk has not
abbrev pub shown : List ℕ → List ℕ
shown o = slice_index o 0 ∷ slice_index o 1 ∷ []

module _ {B : Type 0} (m : Meaning B) where
  -- a call, and its answer
  pub record Answered (c : Call) (a : Option Answer) (d d' : Desk) (t t' : List B) (o o' : List ℕ) : Type 0 where
    pub reply : Reply
    pub answer : a ≡ Some (record { reply = reply; outputs = shown o' })
    pub outcome : Outcome m c reply d.station d'.station (lent d.blocks t) (lent d.blocks t') (lent d.bytes o) (lent d.bytes o')
    pub table : KeepsRest d.blocks t t'
    pub outputs : KeepsRest d.bytes o o'
    pub blocks : d'.blocks ≡ d.blocks
    pub bytes : d'.bytes ≡ d.bytes

  -- another size to lend from now on: no call, and no answer
  pub record Lends (blocks bytes : ℕ) (a : Option Answer) (d d' : Desk) (t t' : List B) (o o' : List ℕ) : Type 0 where
    pub answer : a ≡ None
    pub station : d'.station ≡ d.station
    pub table : t' ≡ t
    pub outputs : o' ≡ o
    pub lent_blocks : d'.blocks ≡ blocks
    pub lent_bytes : d'.bytes ≡ bytes

  abbrev pub Served : Request → Option Answer → (d d' : Desk) (t t' : List B) (o o' : List ℕ) → Type 0
  Served (request.Call c) a d d' t t' o o' = Answered c a d d' t t' o o'
  Served (request.Blocks n) a d d' t t' o o' = Lends n d.bytes a d d' t t' o o'
  Served (request.Bytes n) a d d' t t' o o' = Lends d.blocks n a d d' t t' o o'

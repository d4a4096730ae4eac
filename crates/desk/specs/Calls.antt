-- What a call of the station leaves and answers, by what it is lent.
use Rattle.std.specs.Prelude.{◌≡◌, ℕ, Bool, true, false, List, length, Ok, Err, vec_items, Result}
use Rattle.block.specs.Meaning.{Meaning}
use Rattle.script.specs.declared.command.Command.TheVariants as command
use Rattle.script.specs.Images.{image_bytes}
use Rattle.desk.specs.declared.answer.Reply.{Reply}
use Rattle.desk.specs.declared.answer.Reply.TheVariants.{Loaded, Scanned, Halted, Reported, Needs}
use Rattle.desk.specs.declared.report.Report.{Report}
use Rattle.desk.specs.Replies.{ReportAnswers}
use Rattle.desk.specs.declared.request.Call.{Call}
use Rattle.desk.specs.declared.request.Call.TheVariants.{Load, Command}
use Rattle.station.specs.declared.refusal.LoadRefusal.{LoadRefusal}
use Rattle.station.specs.declared.refusal.Refusal.{Refusal}
use Rattle.station.specs.declared.station.Station.{Station}
use Rattle.station.specs.Calls as history
use Rattle.station.specs.Loads.{LoadOutcome}
use Rattle.station.specs.Promises.{GoesOn}
use Rattle.station.specs.Reads.{NeedsOutcome}
use Rattle.station.specs.Stations.{CallLeaves, LeavesAll}

-- the call of a history; a loading is one where it is refused
abbrev pub as_history : Call → (blocks bytes : ℕ) → history.Call
as_history (Load sheet) blocks bytes = history.Read
as_history (Command (command.Scan image elapsed)) blocks bytes = history.Scan blocks (image_bytes image) elapsed bytes
as_history (Command command.Halt) blocks bytes = history.Halt blocks bytes
as_history (Command (command.Report row size)) blocks bytes = history.Read
as_history (Command (command.Needs output)) blocks bytes = history.Read

-- a loading was accepted
abbrev pub accepted : Reply → Bool
accepted (Loaded (Ok x)) = true
accepted (Loaded (Err e)) = false
accepted (Scanned r) = false
accepted (Halted r) = false
accepted (Reported r) = false
accepted (Needs r) = false

module _ {B : Type 0} (m : Meaning B) where
  -- the reply to a call, and what it leaves
  abbrev pub Outcome : Call → Reply → (s s' : Station) (t t' : List B) (o o' : List ℕ) → Type 0
  Outcome (Load sheet) a s s' t t' o o' = (r : Result (Unit {0}) LoadRefusal) × (a ≡ Loaded r) × LoadOutcome m r (vec_items sheet) s s' t t' o o'
  Outcome (Command (command.Scan image elapsed)) a s s' t t' o o' =
      (a ≡ Scanned (history.scan_answer (history.effect (history.Scan (length t) (image_bytes image) elapsed (length o)))))
      × CallLeaves m (history.effect (history.Scan (length t) (image_bytes image) elapsed (length o))) s s' t t' o o'
  Outcome (Command command.Halt) a s s' t t' o o' =
      (a ≡ Halted (history.halt_answer (history.effect (history.Halt (length t) (length o)))))
      × CallLeaves m (history.effect (history.Halt (length t) (length o))) s s' t t' o o'
  Outcome (Command (command.Report row size)) a s s' t t' o o' = (r : Result Report Refusal) × (a ≡ Reported r) × ReportAnswers m r s t row size × LeavesAll s s' t t' o o'
  Outcome (Command (command.Needs output)) a s s' t t' o o' = (r : Result ℕ Refusal) × (a ≡ Needs r) × NeedsOutcome m r s t output × LeavesAll s s' t t' o o'

  -- a call: its outcome, and that every history goes on through it unless it begins one
  pub record Called (c : Call) (a : Reply) (s s' : Station) (t t' : List B) (o o' : List ℕ) : Type 0 where
    pub outcome : Outcome c a s s' t t' o o'
    pub history : accepted a ≡ false → GoesOn m (as_history c (length t) (length o)) s s' t t' o o'

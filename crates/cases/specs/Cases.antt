-- The cases at the limits, as one table.
use Rattle.std.specs.Prelude.{◌≡◌, Bool, true, false, List, [], ◌∷◌, ℕ, ◌-◌}
use Rattle.block.specs.declared.code.Code.{Code}
use Rattle.block.specs.declared.code.Code.TheVariants.{H8000, HC001, HC3E0, HC3F0}
use Rattle.block.specs.declared.types.Mode.{Mode}
use Rattle.block.specs.declared.types.Mode.TheVariants.{Off, Waiting, On, Fault}
use Rattle.catalogue.specs.declared.Catalogue.{Catalogue}
use Rattle.catalogue.specs.declared.Catalogue.TheVariants.{Estop}
use Rattle.catalogue.specs.declared.stop.StopState.{StopState}
use Rattle.catalogue.specs.declared.stop.StopState.TheVariants as state
use Rattle.catalogue.specs.Catalogue.{catalogue}
use Rattle.reset.specs.declared.fields.ButtonFields.{ButtonFields}
use Rattle.reset.specs.declared.fields.ButtonState.TheVariants as button
use Rattle.reset.specs.Machine.{button_next, button_code}

-- one scan of an emergency stop: pin 0 and the reset bit
pub record Scan : Type 0 where
  pub pin : Bool
  pub reset : Bool

-- what is tried
pub data Trial : Type 0 where
  -- a button of these times is pressed, seen on in two scans, and falls so many milliseconds after the press
  press : (min max time : ℕ) → Trial
  -- a button of these times is on when it is first requested
  on_at_request : (min max : ℕ) → Trial
  -- an emergency stop with start and auto 0, in this state and with this reset bit before, goes through the scans
  stop : StopState → (before : Bool) → List Scan → Trial

-- what comes of it
pub data Outcome : Type 0 where
  code : Code → Outcome
  modes : List Mode → Outcome

abbrev idle_button : ℕ → ℕ → ButtonFields
idle_button min max = record { state = button.Idle; time = 0; min = min; max = max }

abbrev requested : ButtonFields → Bool → Bool → ℕ → ButtonFields
requested f now before elapsed = button_next f (record { requested = true; now = now; before = before; elapsed = elapsed })

-- off, on, on after one millisecond, off after the rest of the time
abbrev pressed : ButtonFields → ℕ → ButtonFields
pressed f time = requested (requested (requested (requested f false false 1) true false 1) true true 1) false true (time - 1)

abbrev scanned : Catalogue → Bool → List Scan → List Mode
scanned b before [] = []
scanned b before (s ∷ ss) =
    let next : Catalogue = catalogue.next b (record { active = true; word = record { pin0 = s.pin; pin1 = false; pin2 = false; pin3 = false }; now = s.reset; before = before; elapsed = 1 }) in
    catalogue.mode next ∷ scanned next s.reset ss

abbrev pub outcome : Trial → Outcome
outcome (press min max time) = code (button_code (pressed (idle_button min max) time).state)
outcome (on_at_request min max) = code (button_code (requested (idle_button min max) true false 1).state)
outcome (stop s before scans) = modes (scanned (Estop (record { settings = record { start = false; auto = false }; state = s })) before scans)

pub record Case : Type 0 where
  pub trial : Trial
  pub gives : Outcome

abbrev case : Trial → Outcome → Case
case t o = record { trial = t; gives = o }

abbrev clear : (reset : Bool) → Scan
clear r = record { pin = true; reset = r }

abbrev stopped : Scan
stopped = record { pin = false; reset = false }

abbrev pub table : List Case
table =
    case (press 350 2000 349) (code HC3F0)
    ∷ case (press 350 2000 350) (code H8000)
    ∷ case (press 350 2000 2000) (code H8000)
    ∷ case (press 350 2000 2001) (code HC3E0)
    ∷ case (on_at_request 350 2000) (code HC001)
    ∷ case (stop state.Idle true (clear false ∷ clear false ∷ clear true ∷ [])) (modes (Off ∷ Waiting ∷ On ∷ []))
    ∷ case (stop state.Idle true (clear false ∷ clear true ∷ [])) (modes (Off ∷ Fault ∷ []))
    ∷ case (stop state.On false (stopped ∷ clear false ∷ [])) (modes (Off ∷ Waiting ∷ []))
    ∷ []

abbrev pub AllHold : List Case → Type 0
AllHold [] = Unit {0}
AllHold (c ∷ cs) = (outcome c.trial ≡ c.gives) × AllHold cs

-- The due lines of a sheet, in their order.
use Rattle.std.specs.Prelude.{◌≡◌, ℕ, ◌<◌, ◌≤◌, Bool, true, false, not, ◌||◌, List, [], ◌∷◌, Some, None, codes, decimal, Option}
use Rattle.block.specs.Limits.{has_restart}
use Rattle.block.specs.declared.types.Kind.{Kind}
use Rattle.block.specs.declared.types.Kind.TheVariants.{And, Or, Estop}
use Rattle.values.specs.declared.source.Source.{Source}
use Rattle.values.specs.declared.source.Source.TheVariants.{Zero, One, Terminal, Row}
use Rattle.std.specs.List.{AllByRecursion}
use Rattle.values.specs.Written.{Any, TwoDigits, FiveDigits, Short, FourShort, ShortReset, two, row_text, source_text, pins_text, reset_text, kind_word, flag_text}
use Rattle.sheet.specs.Due.{Due, asked, asking, outside, not_earlier, off_sheet, not_allowed, bad_times}
use Rattle.sheet.specs.Form.{Form, done, line, and_then, many}
use Rattle.sheet.specs.Limits.{most_rows, last_row, most_outs, last_terminal, least_time, most_time}

-- what the lines of a row say
pub record SaidRow : Type 0 where
  pub kind : Kind
  pub act : Source
  pub pins : List Source
  pub reset : Option ℕ
  pub start : Bool
  pub auto : Bool

-- what the lines of a sheet say
pub record Said : Type 0 where
  pub count : ℕ
  pub outputs : ℕ
  pub min : ℕ
  pub max : ℕ
  pub rows : List SaidRow
  pub outs : List ℕ

-- from 1 to most
abbrev pub Counts : ℕ → ℕ → Type 0
Counts most n = (1 ≤ n) × (n ≤ most)

-- a terminal or a row number is one that a sheet can have
abbrev pub Within : Source → Type 0
Within Zero = Unit {0}
Within One = Unit {0}
Within (Terminal n) = n ≤ last_terminal
Within (Row n) = n ≤ last_row

abbrev pub WithinReset : Option ℕ → Type 0
WithinReset None = Unit {0}
WithinReset (Some n) = n ≤ last_terminal

-- a source of row k is an earlier row, if it is a row
abbrev pub Earlier : ℕ → Source → Type 0
Earlier k Zero = Unit {0}
Earlier k One = Unit {0}
Earlier k (Terminal n) = Unit {0}
Earlier k (Row n) = n < k

-- a setting is 0 unless the kind may have it
abbrev pub flag_allowed : Kind → Bool → Bool
flag_allowed kind flag = has_restart kind || not flag

-- `rows=` and `outs=`
abbrev pub count_due : List ℕ → ℕ → Due ℕ
count_due key most = record { key = key; body = two; plain = TwoDigits; asks = asked outside (Counts most) ∷ [] }

-- `min=` and `max=`, as text
abbrev pub time_text_due : List ℕ → Due ℕ
time_text_due key = record { key = key; body = decimal; plain = FiveDigits; asks = asked outside (λ n. n ≤ most_time) ∷ [] }

-- and not under the time `low`
abbrev pub time_due : List ℕ → ℕ → Due ℕ
time_due key low = asking (time_text_due key) bad_times (λ n. low ≤ n)

-- `kind=`, of the kinds that are taken
abbrev pub kind_due : (Kind → Bool) → Due Kind
kind_due taken = record { key = codes "kind="; body = kind_word; plain = λ k. taken k ≡ true; asks = [] }

abbrev pub act_text_due : Due Source
act_text_due = record { key = codes "act="; body = source_text; plain = Short; asks = asked outside Within ∷ [] }

-- `act=` of row k
abbrev pub act_due : ℕ → Due Source
act_due k = asking act_text_due not_earlier (Earlier k)

abbrev pub pins_text_due : Due (List Source)
pins_text_due = record { key = codes "pins="; body = pins_text; plain = FourShort; asks = asked outside (AllByRecursion Within) ∷ [] }

-- `pins=` of row k
abbrev pub pins_due : ℕ → Due (List Source)
pins_due k = asking pins_text_due not_earlier (AllByRecursion (Earlier k))

abbrev pub reset_due : Due (Option ℕ)
reset_due = record { key = codes "reset="; body = reset_text; plain = ShortReset; asks = asked outside WithinReset ∷ [] }

abbrev pub flag_text_due : List ℕ → Due Bool
flag_text_due key = record { key = key; body = flag_text; plain = Any; asks = [] }

-- `start=` and `auto=` of a row of this kind
abbrev pub flag_due : List ℕ → Kind → Due Bool
flag_due key kind = asking (flag_text_due key) not_allowed (λ flag. flag_allowed kind flag ≡ true)

abbrev pub out_text_due : Due ℕ
out_text_due = record { key = codes "out="; body = row_text; plain = TwoDigits; asks = asked outside (λ n. n ≤ last_row) ∷ [] }

-- `out=` on a sheet of so many rows
abbrev pub out_due : ℕ → Due ℕ
out_due count = asking out_text_due off_sheet (λ n. n < count)

-- the lines of row k
abbrev pub row_form : (Kind → Bool) → ℕ → Form SaidRow
row_form taken k =
    line (kind_due taken) (λ r. r.kind) (λ kind.
    line (act_due k) (λ r. r.act) (λ act.
    line (pins_due k) (λ r. r.pins) (λ pins.
    line reset_due (λ r. r.reset) (λ reset.
    line (flag_due (codes "start=") kind) (λ r. r.start) (λ start.
    line (flag_due (codes "auto=") kind) (λ r. r.auto) (λ auto.
    done (record { kind = kind; act = act; pins = pins; reset = reset; start = start; auto = auto })))))))

-- the lines of an output
abbrev pub out_form : ℕ → ℕ → Form ℕ
out_form count o = line (out_due count) (λ n. n) done

-- what stands past the end of a list of rows
abbrev pub no_row : SaidRow
no_row = record { kind = And; act = Zero; pins = []; reset = None; start = false; auto = false }

-- the rows and outputs
abbrev pub body_form : (Kind → Bool) → ℕ → ℕ → ℕ → ℕ → Form Said
body_form taken count outputs min max =
    and_then (many no_row (row_form taken) count) (λ s. s.rows) (λ rows.
    and_then (many 0 (out_form count) outputs) (λ s. s.outs) (λ outs.
    done (record { count = count; outputs = outputs; min = min; max = max; rows = rows; outs = outs })))

-- the lines of a sheet
abbrev pub sheet_form : (Kind → Bool) → Form Said
sheet_form taken =
    line (count_due (codes "rows=") most_rows) (λ s. s.count) (λ count.
    line (count_due (codes "outs=") most_outs) (λ s. s.outputs) (λ outputs.
    line (time_due (codes "min=") least_time) (λ s. s.min) (λ min.
    line (time_due (codes "max=") min) (λ s. s.max) (λ max.
    body_form taken count outputs min max))))

-- the kinds that are taken today
abbrev pub known : Kind → Bool
known And = true
known Or = true
known Estop = true

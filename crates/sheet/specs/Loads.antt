-- The text of a wiring, and what is wrong with any other text.
use Rattle.std.specs.Prelude.{◌≡◌, ℕ, ◌+◌, ◌<◌, ◌≤◌, Bool, true, List, [], ◌++◌, map, length, ◌≢◌, slice_index_or}
use Rattle.block.specs.declared.types.Kind.{Kind}
use Rattle.sheet.specs.declared.fault.RowFault.TheVariants.{Text}
use Rattle.sheet.specs.declared.fault.TextFault.TheVariants.{TooLong, Trailing}
use Rattle.sheet.specs.declared.fault.WiringFault.{WiringFault}
use Rattle.sheet.specs.declared.fault.WiringFault.TheVariants as fault
use Rattle.sheet.specs.declared.row.Row.{Row}
use Rattle.sheet.specs.declared.wiring.Wiring.{Wiring}
use Rattle.sheet.specs.Form.{lines_of, Refuses}
use Rattle.sheet.specs.Limits.{most_bytes}
use Rattle.sheet.specs.Lines.{flat, start}
use Rattle.sheet.specs.Sheet.{SaidRow, Said, sheet_form, known}
use Rattle.sheet.specs.Wires.{listed, routed}

-- what a row's lines say
abbrev pub row_said : Row → SaidRow
row_said r = record { kind = r.settings.kind; act = r.act; pins = r.pins; reset = r.reset; start = r.settings.start; auto = r.settings.auto }

-- what a wiring's sheet says
abbrev pub said : Wiring → Said
said w = record { count = w.count; outputs = w.outputs; min = w.times.min; max = w.times.max; rows = map row_said (listed w); outs = routed w }

-- Which kinds are taken is a parameter of the rest.
module _ (taken : Kind → Bool) where
  -- the lines of a wiring's sheet
  abbrev pub lines_for : Wiring → List (List ℕ)
  lines_for w = lines_of (sheet_form taken) (said w)

  -- the text of a wiring: its lines, each with a line feed
  abbrev pub text_for : Wiring → List ℕ
  text_for w = flat (lines_for w)

  -- all rows are of kinds that are taken
  abbrev pub Takes : Wiring → Type 0
  Takes w = (k : ℕ) (past : Row) → k < w.count → taken (slice_index_or (listed w) k past).settings.kind ≡ true

  -- What is wrong with the text s: first its length, then the first bad line, last what follows the last line.
  pub data RefusedFor (s : List ℕ) (f : WiringFault) : Type 0 where
    too_long : most_bytes < length s → f ≡ fault.Row (Text TooLong) → RefusedFor s f
    bad_line : length s ≤ most_bytes → Refuses (sheet_form taken) (start s) f → RefusedFor s f
    trailing : (w : Wiring) (rest : List ℕ) → length s ≤ most_bytes → Takes w → s ≡ text_for w ++ rest → (rest ≢ []) → f ≡ fault.Row (Text (Trailing (length (lines_for w) + 1))) → RefusedFor s f

-- the text of a wiring; shut, so that callers of the loader do not see it written out
unfoldable pub text : Wiring → List ℕ
text w = text_for known w

-- the text s has the fault f
abbrev pub Refused : List ℕ → WiringFault → Type 0
Refused s f = RefusedFor known s f

-- the verdict on a text is one: no text has two faults, and none that a wiring writes has any
pub record OneVerdict : Type 0 where
  pub one_fault : (s : List ℕ) (f g : WiringFault) → Refused s f → Refused s g → f ≡ g
  pub no_fault : (s : List ℕ) (f : WiringFault) (w : Wiring) → s ≡ text w → Refused s f → ⊥

-- two wirings with one text are equal
abbrev pub OneWiring : Type 0
OneWiring = (v w : Wiring) → text v ≡ text w → v ≡ w

-- no wiring's text is too long, so that the limit on bytes takes nothing away
abbrev pub TextsAreShort : Type 0
TextsAreShort = (w : Wiring) → length (text w) ≤ most_bytes

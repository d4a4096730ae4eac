-- What every wiring keeps, as tests of its fields.
use Rattle.std.specs.Prelude.{ℕ, suc, Bool, true, false, cond, not, ◌&&◌, List, [], ◌∷◌, length, Some, None, Option, ◌==◌, nat_le, nat_lt}
use Rattle.std.specs.List.{list_all}
use Rattle.block.specs.declared.settings.Settings.{Settings}
use Rattle.block.specs.declared.types.Kind.{Kind}
use Rattle.block.specs.declared.types.Kind.TheVariants.{And, Or, Estop}
use Rattle.values.specs.declared.source.Source.{Source}
use Rattle.values.specs.declared.source.Source.TheVariants as source
use Rattle.sheet.specs.declared.row.Row.{Row}
use Rattle.sheet.specs.Limits.{most_rows, most_outs, last_terminal, pin_count}

-- a source of row k: a constant, a terminal of the image or an earlier row
abbrev pub source_wired : ℕ → Source → Bool
source_wired k source.Zero = true
source_wired k source.One = true
source_wired k (source.Terminal n) = nat_le n last_terminal
source_wired k (source.Row n) = nat_lt n k

abbrev pub reset_wired : Option ℕ → Bool
reset_wired None = true
reset_wired (Some n) = nat_le n last_terminal

-- row k
abbrev pub row_wired : ℕ → Row → Bool
row_wired k r = source_wired k r.act && ((length r.pins == pin_count && list_all (source_wired k) r.pins) && reset_wired r.reset)

abbrev pub is_zero : Source → Bool
is_zero source.Zero = true
is_zero source.One = false
is_zero (source.Terminal n) = false
is_zero (source.Row n) = false

abbrev pub no_reset : Option ℕ → Bool
no_reset None = true
no_reset (Some n) = false

abbrev pub is_and : Kind → Bool
is_and And = true
is_and Or = false
is_and Estop = false

abbrev pub settings_blank : Settings → Bool
settings_blank s = is_and s.kind && (not s.start && not s.auto)

-- the one row that stands past the count: an AND of constants 0
abbrev pub row_blank : Row → Bool
row_blank r = settings_blank r.settings && (is_zero r.act && ((length r.pins == pin_count && list_all is_zero r.pins) && no_reset r.reset))

-- a test that holds at each place, from place k on
abbrev pub each_place : {X : Type 0} → (ℕ → X → Bool) → ℕ → List X → Bool
each_place test k [] = true
each_place test k (x ∷ xs) = test k x && each_place test (suc k) xs

-- place k of the table of rows
abbrev pub row_fits : ℕ → ℕ → Row → Bool
row_fits count k r = cond (nat_lt k count) (row_wired k r) (row_blank r)

-- place o of the table of outputs: a row on the sheet, or the blank 0
abbrev pub out_fits : ℕ → ℕ → ℕ → ℕ → Bool
out_fits count outputs o n = cond (nat_lt o outputs) (nat_lt n count) (n == 0)

abbrev pub count_allowed : ℕ → ℕ → Bool
count_allowed most n = nat_le 1 n && nat_le n most

abbrev pub rows_allowed : ℕ → List Row → Bool
rows_allowed count rows = count_allowed most_rows count && (length rows == most_rows && each_place (row_fits count) 0 rows)

abbrev pub outs_allowed : ℕ → ℕ → List ℕ → Bool
outs_allowed count outputs outs = count_allowed most_outs outputs && (length outs == most_outs && each_place (out_fits count outputs) 0 outs)

abbrev pub wiring_allowed : ℕ → List Row → ℕ → List ℕ → Bool
wiring_allowed count rows outputs outs = rows_allowed count rows && outs_allowed count outputs outs

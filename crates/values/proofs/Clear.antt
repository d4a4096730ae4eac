-- No value of a line has a byte below the digits in it, but for the commas of pins and the dash of a reset.
use Rattle.std.proofs.Common.{ℕ, ◌<◌, Bool, true, false, List, [], ◌∷◌, map, Some, None, codes, decimal, Option, refl, arith}
use Rattle.std.specs.Str.Parse.{AllDigits}
use Rattle.std.proofs.lemmas.Fmt.{digits_decimal}
use Rattle.std.proofs.lemmas.Str.Parse.{digit_from_value}
use Rattle.block.specs.declared.types.Kind.{Kind}
use Rattle.block.specs.declared.types.Kind.TheVariants.{And, Or, Estop}
use Rattle.values.specs.declared.source.Source.{Source}
use Rattle.values.specs.declared.source.Source.TheVariants.{Zero, One, Terminal, Row}
use Rattle.std.specs.List.{AllByRecursion}
use Rattle.values.specs.Written.{two, source_text, pins_text, reset_text, kind_word, flag_text}
use Rattle.values.proofs.Glue.{Clear, clear_append, clear_from}
use Rattle.values.proofs.Times.{own}

pub two_clear : (sep n : ℕ) → sep < 48 → Clear sep (two n)
two_clear sep n h = (λ e. omega arith, (λ e. omega arith, tt))

pub source_clear : (sep : ℕ) (a : Source) → sep < 48 → Clear sep (source_text a)
source_clear sep Zero h = (λ e. omega arith, tt)
source_clear sep One h = (λ e. omega arith, tt)
source_clear sep (Terminal n) h = (λ e. omega arith, two_clear sep n h)
source_clear sep (Row n) h = (λ e. omega arith, two_clear sep n h)

pub sources_clear : (sep : ℕ) (v : List Source) → sep < 48 → AllByRecursion (Clear sep) (map source_text v)
sources_clear sep [] h = tt
sources_clear sep (a ∷ v) h = (source_clear sep a h, sources_clear sep v h)

pub pins_clear : (sep : ℕ) (v : List Source) → sep < 44 → Clear sep (pins_text v)
pins_clear sep [] h = tt
pins_clear sep (a ∷ []) h = source_clear sep a (omega arith)
pins_clear sep (a ∷ b ∷ v) h = clear_append sep (source_text a) (44 ∷ pins_text (b ∷ v)) (source_clear sep a (omega arith)) (λ e. omega arith, pins_clear sep (b ∷ v) h)

digits_clear : (sep : ℕ) (ds : List ℕ) → sep < 48 → AllDigits 10 ds → Clear sep ds
digits_clear sep [] h d = tt
digits_clear sep (x ∷ ds) h d = let low = digit_from_value x d.0 in (λ e. omega arith, digits_clear sep ds h d.1)

pub time_clear : (sep n : ℕ) → sep < 48 → n < 100000 → Clear sep (decimal n)
time_clear sep n h l = digits_clear sep (decimal n) h (digits_decimal own n (omega arith))

pub kind_clear : (k : Kind) → Clear 10 (kind_word k)
kind_clear Estop = clear_from 10 (codes "estop") refl
kind_clear And = clear_from 10 (codes "and") refl
kind_clear Or = clear_from 10 (codes "or") refl

pub flag_clear : (b : Bool) → Clear 10 (flag_text b)
flag_clear true = clear_from 10 (codes "1") refl
flag_clear false = clear_from 10 (codes "0") refl

pub reset_clear : (r : Option ℕ) → Clear 10 (reset_text r)
reset_clear None = clear_from 10 (codes "-") refl
reset_clear (Some n) = (λ e. omega arith, two_clear 10 n (omega arith))

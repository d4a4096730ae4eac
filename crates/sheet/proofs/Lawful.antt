-- A wired row is lawful.
use borrow.Author.Tests.{clash}
use Rattle.std.proofs.Common.{◌≡◌, ℕ, ◌≤◌, Bool, true, false, not, ◌&&◌, ◌||◌, eqb, List, [], ◌∷◌, length, Some, None, Option, refl, arith}
use Rattle.std.specs.List.{list_all}
use Rattle.std.proofs.lemmas.Bool.{and_parts, leb-true, ltb-true, eqb-true}
use Rattle.block.specs.Limits.{has_restart}
use Rattle.block.specs.declared.types.Kind.{Kind}
use Rattle.values.specs.declared.source.Source.{Source}
use Rattle.values.specs.declared.source.Source.TheVariants as source
use Rattle.std.specs.List.{AllByRecursion}
use Rattle.values.specs.Written.{Short, ShortReset}
use Rattle.sheet.specs.declared.row.Row.{Row}
use Rattle.sheet.specs.Form.{Lawful}
use Rattle.sheet.specs.Limits.{last_terminal, most_rows, pin_count}
use Rattle.sheet.specs.Loads.{row_said}
use Rattle.sheet.specs.Sheet.{Within, WithinReset, Earlier, row_form}
use Rattle.sheet.specs.Wired.{source_wired, reset_wired, row_wired}

source_within : (k : ℕ) (s : Source) → k ≤ most_rows → source_wired k s ≡ true → Within s
source_within k source.Zero l h = tt
source_within k source.One l h = tt
source_within k (source.Terminal n) l h = leb-true n last_terminal h
source_within k (source.Row n) l h = let b = ltb-true n k h in omega arith

source_earlier : (k : ℕ) (s : Source) → source_wired k s ≡ true → Earlier k s
source_earlier k source.Zero h = tt
source_earlier k source.One h = tt
source_earlier k (source.Terminal n) h = tt
source_earlier k (source.Row n) h = ltb-true n k h

source_short : (s : Source) → Within s → Short s
source_short source.Zero w = tt
source_short source.One w = tt
source_short (source.Terminal n) w = omega arith
source_short (source.Row n) w = omega arith

each_wired : (k : ℕ) (P : Source → Type 0) → ((s : Source) → source_wired k s ≡ true → P s) → (ss : List Source) → list_all (source_wired k) ss ≡ true → AllByRecursion P ss
each_wired k P f [] h = tt
each_wired k P f (s ∷ ss) h = let p = and_parts (source_wired k s) (list_all (source_wired k) ss) h in (f s p.0, each_wired k P f ss p.1)

reset_within : (r : Option ℕ) → reset_wired r ≡ true → WithinReset r
reset_within None h = tt
reset_within (Some n) h = leb-true n last_terminal h

reset_short : (r : Option ℕ) → WithinReset r → ShortReset r
reset_short None w = tt
reset_short (Some n) w = omega arith

-- each flag is allowed where both are
flags : (h s a : Bool) → (h || not (s || a)) ≡ true → ((h || not s) ≡ true) × ((h || not a) ≡ true)
flags true s a e = (refl, refl)
flags false true a e = absurd (clash e)
flags false false true e = absurd (clash e)
flags false false false e = (refl, refl)

pub row_lawful : (taken : Kind → Bool) (k : ℕ) (r : Row) → k ≤ most_rows → taken r.settings.kind ≡ true → row_wired k r ≡ true → Lawful (row_form taken k) (row_said r)
row_lawful taken k r l known h =
    let four = eqb (length r.pins) pin_count in
    let pins = list_all (source_wired k) r.pins in
    let a = and_parts (source_wired k r.act) ((four && pins) && reset_wired r.reset) h in
    let b = and_parts (four && pins) (reset_wired r.reset) a.1 in
    let c = and_parts four pins b.0 in
    let act = source_within k r.act l a.0 in
    let reset = reset_within r.reset b.1 in
    let both = flags (has_restart r.settings.kind) r.settings.start r.settings.auto r.settings.allowed in
    let short = each_wired k Short (λ s w. source_short s (source_within k s l w)) r.pins c.1 in
    let within = each_wired k Within (λ s w. source_within k s l w) r.pins c.1 in
    let earlier = each_wired k (Earlier k) (source_earlier k) r.pins c.1 in (
      known,
      tt,
      (
        source_short r.act act,
        (act, (source_earlier k r.act a.0, tt)),
        (
          (eqb-true (length r.pins) pin_count c.0, short),
          (within, (earlier, tt)),
          (reset_short r.reset reset, (reset, tt), (tt, (both.0, tt), (tt, (both.1, tt), refl))),
        ),
      ),
    )

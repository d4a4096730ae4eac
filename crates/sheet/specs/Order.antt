-- Which rule comes before which within a line.
use Rattle.std.specs.Prelude.{◌≡◌, Bool, ◌⊎◌, List, [], ◌∷◌}
use Rattle.block.specs.declared.types.Kind.{Kind}
use Rattle.sheet.specs.Due.{Rule, malformed, outside, not_earlier, off_sheet, not_allowed, bad_times, Asked, Due}
use Rattle.sheet.specs.Form.{Every}
use Rattle.sheet.specs.Sheet.{sheet_form}

-- the order of the rules
abbrev pub order : List Rule
order = malformed ∷ outside ∷ not_earlier ∷ off_sheet ∷ not_allowed ∷ bad_times ∷ []

abbrev pub rules : {V : Type 0} → List (Asked V) → List Rule
rules [] = []
rules (a ∷ more) = a.rule ∷ rules more

-- the rules qs stand in os, in the order of os
abbrev pub Follows : List Rule → List Rule → Type 0
Follows [] os = Unit {0}
Follows (q ∷ qs) [] = ⊥
Follows (q ∷ qs) (o ∷ os) = ((q ≡ o) × Follows qs os) ⊎ Follows (q ∷ qs) os

-- a line is malformed before it breaks what is asked of it, and that is asked in the order of the rules
abbrev pub InOrder : (V : Type 0) → Due V → Type 0
InOrder V d = Follows (malformed ∷ rules d.asks) order

-- so it is in every due line of a sheet
abbrev pub RulesInOrder : Type 0
RulesInOrder = (taken : Kind → Bool) → Every InOrder (sheet_form taken)

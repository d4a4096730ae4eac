-- The verdict on a text is one, and a text writes one wiring at most.
use Rattle.std.proofs.Common.{◌≡◌, ℕ, ◌+◌, Bool, true, List, [], ◌++◌, length, get_or, sym, refl, ap, ◌∙◌, append-nil, arith}
use Rattle.block.specs.declared.types.Kind.{Kind}
use Rattle.block.specs.declared.types.Kind.TheVariants.{And, Or, Estop}
use Rattle.values.specs.Cut.{join_at}
use Rattle.values.proofs.Glue.{join_cut}
use Rattle.sheet.specs.declared.fault.RowFault.TheVariants.{Text}
use Rattle.sheet.specs.declared.fault.TextFault.TheVariants.{Trailing}
use Rattle.sheet.specs.declared.fault.WiringFault.{WiringFault}
use Rattle.sheet.specs.declared.fault.WiringFault.TheVariants as fault
use Rattle.sheet.specs.declared.wiring.Wiring.{Wiring}
use Rattle.sheet.specs.Form.{lines_of}
use Rattle.sheet.specs.Lines.{pieces, start}
use Rattle.sheet.specs.Loads.{said, text_for, text, Takes, RefusedFor, too_long, bad_line, trailing, OneVerdict, OneWiring, TextsAreShort}
use Rattle.sheet.specs.Sheet.{sheet_form, known}
use Rattle.sheet.specs.Wires.{listed}
use Rattle.sheet.proofs.Only.{exclusive, same_fault, same_reading}
use Rattle.sheet.proofs.Said.{said_same}
use Rattle.sheet.proofs.Unique.{unique_sheet}
use Rattle.sheet.proofs.Whole.{after_text, text_accepted, text_short}
use Rattle.sheet.proofs.Wired.{any_row}

module _ (taken : Kind → Bool) (s : List ℕ) where
  one_fault : (f g : WiringFault) → RefusedFor taken s f → RefusedFor taken s g → f ≡ g
  one_fault f g (too_long a p) (too_long b q) = p ∙ sym q
  one_fault f g (too_long a p) (bad_line b q) = absurd (omega arith)
  one_fault f g (too_long a p) (trailing w rest b k e n q) = absurd (omega arith)
  one_fault f g (bad_line a p) (too_long b q) = absurd (omega arith)
  one_fault f g (bad_line a p) (bad_line b q) = same_fault (sheet_form taken) (start s) f g (unique_sheet taken) p q
  one_fault f g (bad_line a p) (trailing w rest b k e n q) = absurd (exclusive (sheet_form taken) (said w) (start s) (after_text w taken k rest) f (unique_sheet taken) (text_accepted w taken k s rest e) p)
  one_fault f g (trailing w rest b k e n q) (too_long a p) = absurd (omega arith)
  one_fault f g (trailing w rest b k e n q) (bad_line a p) = absurd (exclusive (sheet_form taken) (said w) (start s) (after_text w taken k rest) g (unique_sheet taken) (text_accepted w taken k s rest e) p)
  one_fault f g (trailing v more a j d m p) (trailing w rest b k e n q) =
      let same = (same_reading (sheet_form taken) (said v) (said w) (start s) (after_text v taken j more) (after_text w taken k rest) (unique_sheet taken) (text_accepted v taken j s more d) (text_accepted w taken k s rest e)).value in
      p ∙ ap (λ z. fault.Row (Text (Trailing (length (lines_of (sheet_form taken) z) + 1)))) same ∙ sym q

  -- a text that is cut into one empty piece is empty
  none_left : (rest : List ℕ) → pieces rest ≡ pieces [] → rest ≡ []
  none_left rest e = sym (join_cut 10 rest) ∙ ap (join_at 10) e

  module _ (w : Wiring) (k : Takes taken w) (e : s ≡ text_for taken w) where
    alone : s ≡ text_for taken w ++ []
    alone = e ∙ sym (append-nil (text_for taken w))

    no_fault : (f : WiringFault) → RefusedFor taken s f → ⊥
    no_fault f (too_long a p) = let short = text_short w taken k in let same = ap length e in omega arith
    no_fault f (bad_line a p) = exclusive (sheet_form taken) (said w) (start s) (after_text w taken k []) f (unique_sheet taken) (text_accepted w taken k s [] alone) p
    no_fault f (trailing v rest b j d n q) =
        let same = (same_reading (sheet_form taken) (said v) (said w) (start s) (after_text v taken j rest) (after_text w taken k []) (unique_sheet taken) (text_accepted v taken j s rest d) (text_accepted w taken k s [] alone)).place in
        n (none_left rest (ap (λ p. p.left) same))

    only_wiring : (v : Wiring) → Takes taken v → s ≡ text_for taken v → v ≡ w
    only_wiring v j d =
        said_same v w (same_reading (sheet_form taken) (said v) (said w) (start s) (after_text v taken j []) (after_text w taken k []) (unique_sheet taken) (text_accepted v taken j s [] (d ∙ sym (append-nil (text_for taken v)))) (text_accepted w taken k s [] alone)).value any_row

-- every kind is taken today
all_known : (k : Kind) → known k ≡ true
all_known And = refl
all_known Or = refl
all_known Estop = refl

pub takes_known : (w : Wiring) → Takes known w
takes_known w k past l = all_known (get_or (listed w) k past).settings.kind

pub one_verdict_lem : OneVerdict
unfolding text
one_verdict_lem = record { one_fault = one_fault known; no_fault = λ s f w e. no_fault known s w (takes_known w) e f }

pub one_wiring_lem : OneWiring
unfolding text
one_wiring_lem v w e = only_wiring known (text v) w (takes_known w) e v (takes_known v) refl

pub texts_are_short_lem : TextsAreShort
unfolding text
texts_are_short_lem w = text_short w known (takes_known w)

-- Wirings that say the same are equal.
use borrow.Author.Tests.{clash}
use Rattle.std.proofs.Common.{◌≡◌, ℕ, ◌<◌, ◌≤◌, true, false, not, ◌&&◌, eqb, ltb, List, [], ◌∷◌, length, get_or, take, Some, None, Option, sym, refl, ap, ◌∙◌, ⊎_elim, arith, length-take-le, get_or-take, ext_get_or}
use Rattle.std.specs.List.{list_all}
use Rattle.std.proofs.lemmas.List.{get_or-map}
use Rattle.std.proofs.lemmas.Bool.{and_parts, cases_lt, cond-false, le-ltb, eqb-true, not-true}
use Rattle.block.specs.declared.types.Kind.{Kind}
use Rattle.block.specs.declared.types.Kind.TheVariants.{And, Or, Estop}
use Rattle.values.specs.declared.source.Source.{Source}
use Rattle.values.specs.declared.source.Source.TheVariants as source
use Rattle.sheet.specs.declared.row.Row.{Row}
use Rattle.sheet.specs.declared.wiring.Wiring.{Wiring}
use Rattle.sheet.specs.Limits.{most_rows, most_outs, pin_count}
use Rattle.sheet.specs.Loads.{row_said, said}
use Rattle.sheet.specs.Sheet.{no_row}
use Rattle.sheet.specs.Wired.{is_and, is_zero, no_reset, settings_blank, row_blank, row_wired}
use Rattle.sheet.proofs.Same.{settings_same, times_same, wiring_same}
use Rattle.sheet.proofs.Wires.{rows_table, outs_table}

row_same : (a b : Row) → row_said a ≡ row_said b → a ≡ b
row_same a b e =
    let settings = settings_same a.settings b.settings (ap (λ s. s.kind) e) (ap (λ s. s.start) e) (ap (λ s. s.auto) e) in
    λ i. record { settings = settings i; act = (e i).act; pins = (e i).pins; reset = (e i).reset }

and_only : (k : Kind) → is_and k ≡ true → k ≡ And
and_only And h = refl
and_only Or h = absurd (clash h)
and_only Estop h = absurd (clash h)

zero_only : (s : Source) → is_zero s ≡ true → s ≡ source.Zero
zero_only source.Zero h = refl
zero_only source.One h = absurd (clash h)
zero_only (source.Terminal n) h = absurd (clash h)
zero_only (source.Row n) h = absurd (clash h)

none_only : (r : Option ℕ) → no_reset r ≡ true → r ≡ None
none_only None h = refl
none_only (Some n) h = absurd (clash h)

zeros_only : (ps qs : List Source) → length ps ≡ length qs → list_all is_zero ps ≡ true → list_all is_zero qs ≡ true → ps ≡ qs
zeros_only [] [] e g h = refl
zeros_only [] (q ∷ qs) e g h = absurd (omega arith)
zeros_only (p ∷ ps) [] e g h = absurd (omega arith)
zeros_only (p ∷ ps) (q ∷ qs) e g h =
    let a = and_parts (is_zero p) (list_all is_zero ps) g in
    let b = and_parts (is_zero q) (list_all is_zero qs) h in
    let first : p ≡ q = zero_only p a.0 ∙ sym (zero_only q b.0) in
    let rest = zeros_only ps qs (omega arith) a.1 b.1 in
    cc

-- what a blank row's test has in it
record Blank (r : Row) : Type 0 where
  kind : r.settings.kind ≡ And
  start : r.settings.start ≡ false
  auto : r.settings.auto ≡ false
  act : r.act ≡ source.Zero
  four : length r.pins ≡ pin_count
  pins : list_all is_zero r.pins ≡ true
  reset : r.reset ≡ None

blank_from : (r : Row) → row_blank r ≡ true → Blank r
blank_from r h =
    let four = eqb (length r.pins) pin_count in
    let pins = list_all is_zero r.pins in
    let a = and_parts (settings_blank r.settings) (is_zero r.act && ((four && pins) && no_reset r.reset)) h in
    let b = and_parts (is_zero r.act) ((four && pins) && no_reset r.reset) a.1 in
    let c = and_parts (four && pins) (no_reset r.reset) b.1 in
    let d = and_parts four pins c.0 in
    let e = and_parts (is_and r.settings.kind) (not r.settings.start && not r.settings.auto) a.0 in
    let f = and_parts (not r.settings.start) (not r.settings.auto) e.1 in
    record {
      kind = and_only r.settings.kind e.0;
      start = not-true r.settings.start f.0;
      auto = not-true r.settings.auto f.1;
      act = zero_only r.act b.0;
      four = eqb-true (length r.pins) pin_count d.0;
      pins = d.1;
      reset = none_only r.reset c.1;
    }

blank_said : (a b : Row) → Blank a → Blank b → row_said a ≡ row_said b
blank_said a b g h =
    let x = g.four in
    let y = h.four in
    let pins = zeros_only a.pins b.pins (omega arith) g.pins h.pins in
    let kind = g.kind ∙ sym h.kind in
    let start = g.start ∙ sym h.start in
    let auto = g.auto ∙ sym h.auto in
    let act = g.act ∙ sym h.act in
    let reset = g.reset ∙ sym h.reset in
    λ i. record { kind = kind i; act = act i; pins = pins i; reset = reset i; start = start i; auto = auto i }

past_rows : (w : Wiring) (k : ℕ) (x : Row) → w.count ≤ k → k < most_rows → row_blank (get_or w.rows k x) ≡ true
past_rows w k x l m =
    let r = get_or w.rows k x in
    sym (cond-false (ltb k w.count) (row_wired k r) (row_blank r) (le-ltb k w.count l)) ∙ (rows_table w).fits k x m

past_outs : (w : Wiring) (o : ℕ) → w.outputs ≤ o → o < most_outs → get_or w.outs o 0 ≡ 0
past_outs w o l m =
    let n = get_or w.outs o 0 in
    eqb-true n 0 (sym (cond-false (ltb o w.outputs) (ltb n w.count) (eqb n 0) (le-ltb o w.outputs l)) ∙ (outs_table w).fits o 0 m)

-- what is said of a row on the sheet
row_told : (w : Wiring) (k : ℕ) (x : Row) → k < w.count → get_or (said w).rows k no_row ≡ row_said (get_or w.rows k x)
row_told w k x l =
    let few = (rows_table w).few in
    let full = (rows_table w).full in
    let short : length (take w.count w.rows) ≡ w.count = length-take-le w.count w.rows (omega arith) in
    get_or-map row_said (take w.count w.rows) k x no_row (omega arith) ∙ ap row_said (get_or-take w.count w.rows k x l)

module _ (v w : Wiring) (e : said v ≡ said w) where
  counts : v.count ≡ w.count
  counts = ap (λ s. s.count) e

  rows_at : (x : Row) (k : ℕ) → k < length v.rows → get_or v.rows k x ≡ get_or w.rows k x
  rows_at x k l =
      let full = (rows_table v).full in
      let same = counts in
      row_same (get_or v.rows k x) (get_or w.rows k x) (⊎_elim
      (λ m. sym (row_told v k x m) ∙ ap (λ s. get_or s.rows k no_row) e ∙ row_told w k x (omega arith))
      (λ m. blank_said (get_or v.rows k x) (get_or w.rows k x) (blank_from (get_or v.rows k x) (past_rows v k x m (omega arith))) (blank_from (get_or w.rows k x) (past_rows w k x (omega arith) (omega arith))))
      (cases_lt k v.count))

  outs_at : (o : ℕ) → o < length v.outs → get_or v.outs o 0 ≡ get_or w.outs o 0
  outs_at o l =
      let full = (outs_table v).full in
      let same : v.outputs ≡ w.outputs = ap (λ s. s.outputs) e in
      ⊎_elim
      (λ m. sym (get_or-take v.outputs v.outs o 0 m) ∙ ap (λ s. get_or s.outs o 0) e ∙ get_or-take w.outputs w.outs o 0 (omega arith))
      (λ m. past_outs v o m (omega arith) ∙ sym (past_outs w o (omega arith) (omega arith)))
      (cases_lt o v.outputs)

  pub said_same : Row → v ≡ w
  said_same x =
      wiring_same v w (times_same v.times w.times (ap (λ s. s.min) e) (ap (λ s. s.max) e)) counts
      (ext_get_or x v.rows w.rows ((rows_table v).full ∙ sym (rows_table w).full) (rows_at x)) (ap (λ s. s.outputs) e)
      (ext_get_or 0 v.outs w.outs ((outs_table v).full ∙ sym (outs_table w).full) outs_at)

use Rattle.std.proofs.Common.{rules, ◌≡◌, ℕ, ◌+◌, List, [], ◌∷◌, ◌++◌, length, Ok, Err, sym, refl, ap, ◌∙◌, subst, append-nil, arith}
use Rattle.std.proofs.lemmas.Result.{err_from_is_err_and}
use Rattle.sheet.specs.declared.fault.WiringFault.{WiringFault}
use Rattle.sheet.specs.declared.fault.WiringFault.TheVariants as fault
use Rattle.sheet.specs.declared.fault.RowFault.TheVariants.{Text}
use Rattle.sheet.specs.declared.fault.TextFault.TheVariants.{Trailing}
use Rattle.sheet.specs.declared.reader.Reader.{Reader}
use Rattle.sheet.specs.declared.wiring.Wiring.{Wiring}
use Rattle.sheet.specs.Form.{Accepted, Refuses, lines_of}
use Rattle.sheet.specs.Lines.{start}
use Rattle.sheet.specs.Loads.{said, text, Refused, bad_line, trailing}
use Rattle.sheet.specs.Reading.{at, Ended}
use Rattle.sheet.specs.Sheet.{sheet_form, known}
use Rattle.sheet.proofs.Clean.{text_from_pieces}
use Rattle.sheet.proofs.Verdict.{takes_known, one_verdict_lem, one_wiring_lem}
use Rattle.sheet.proofs.load.load_sheet.Goals as goal

-- a text that is refused is no wiring's
never : (s : List ℕ) (f : WiringFault) (w : Wiring) → Refused s f → s ≡ text w → Err f ≡ Ok w
never s f w r e = absurd (one_verdict_lem.no_fault s f w e r)

pub returns-in_err-reader-clause-exact : goal.returns-in_err-reader-clause-exact
returns-in_err-reader-clause-exact c =
    let p = err_from_is_err_and c.from_residual.result c.from_residual.ensures.1 in
    let f = fault.Row c.in_err-reader.field-0.0 in
    let r : Refused c.args.sheet.now f = search rules in
    rw (p.1, p.2) (λ w e. never c.args.sheet.now f w r e)

pub returns-in_err-wiring : goal.returns-in_err-wiring
returns-in_err-wiring c =
    let p = err_from_is_err_and c.from_residual-in_err-wiring.result c.from_residual-in_err-wiring.ensures.1 in
    let s = c.args.sheet.now in
    let first : at c.in_ok-reader.reader ≡ start s = search rules in
    let f = c.in_err-wiring.field-0.0 in
    let r : Refused s f = bad_line (search rules) (subst (λ z. Refuses (sheet_form known) z f) first c.in_err-wiring.ensures) in
    rw (p.1, p.2) (record { verdict = r; exact = λ w e. never s f w r e })

-- the text that was read up to the reader r
read_text : (s : List ℕ) (a r : Reader) (w : Wiring) → at a ≡ start s → Accepted (sheet_form known) (said w) (at a) (at r) → s ≡ text w ++ r.rest.now
unfolding text
read_text s a r w e h = text_from_pieces s r.rest.now (lines_of (sheet_form known) (said w)) (sym (ap (λ p. p.left) e) ∙ h.left)

empty : (l : List ℕ) → length l ≡ 0 → l ≡ []
empty [] e = refl
empty (b ∷ l) e = absurd (omega arith)

pub returns-in_err-map_err : goal.returns-in_err-map_err
unfolding text
returns-in_err-map_err c =
    let p = err_from_is_err_and c.from_residual-in_err-map_err.result c.from_residual-in_err-map_err.ensures.1 in
    let s = c.args.sheet.now in
    let f = c.in_err-map_err.field-0.0 in
    let w = c.in_ok-wiring.wiring in
    let a = c.in_ok-reader.reader in
    let first : at a ≡ start s = search rules in
    let end = c.read_wiring.new.reader in
    let b : (Ended end → ⊥) × (f ≡ Text (Trailing (end.line + 1))) = search rules in
    let h = c.in_ok-wiring.ensures in
    let lines = h.line in
    let line = ap (λ q. q.line) first in
    let count : end.line ≡ length (lines_of (sheet_form known) (said w)) = omega arith in
    let r : Refused s (fault.Row f) =
    trailing w end.rest.now (search rules) (takes_known w) (read_text s a end w first h) (λ e. b.0 (ap length e))
    (ap fault.Row b.1 ∙ ap (λ n. fault.Row (Text (Trailing (n + 1)))) count) in
    rw (p.1, p.2) (record { verdict = r; exact = λ v e. never s (fault.Row f) v r e })

pub returns : goal.returns
unfolding text
returns c =
    let s = c.args.sheet.now in
    let w = c.in_ok-wiring.wiring in
    let end = c.read_wiring.new.reader in
    let first : at c.in_ok-reader.reader ≡ start s = search rules in
    let whole : s ≡ text w = read_text s c.in_ok-reader.reader end w first c.in_ok-wiring.ensures ∙ ap (λ z. text w ++ z) (empty end.rest.now (search rules)) ∙ append-nil (text w) in
    record { verdict = whole; exact = λ v e. ap Ok (one_wiring_lem w v (sym whole ∙ e)) }

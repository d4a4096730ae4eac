use Rattle.std.proofs.Common.{◌≡◌, Some, None, refl, arith}
use Rattle.std.proofs.lemmas.Result.{err_from_is_err_and}
use Rattle.sheet.specs.declared.fault.TextFault.TheVariants.{Malformed}
use Rattle.sheet.specs.Steps.{no_line, unparsed, turned_down, taken}
use Rattle.sheet.proofs.text_lines.read.Goals as goal

pub returns-in_err-part : goal.returns-in_err-part
returns-in_err-part g c =
    let p = err_from_is_err_and c.from_residual.result c.from_residual.ensures.1 in
    rw (p.1, p.2) (no_line _ c.in_err-part.ensures refl)

pub returns-in_err-value : goal.returns-in_err-value
returns-in_err-value g c =
    let part = c.in_ok-part.part in
    let p = err_from_is_err_and c.from_residual-in_err-value.result c.from_residual-in_err-value.ensures.1 in
    let o : c.parse.result ≡ None = grind arith in
    let f : c.in_err-value.field-0.0 ≡ Malformed part.line = grind arith in
    rw (p.1, p.2, f) (unparsed part.bytes.now part.line c.in_ok-part.ensures (part.bytes, rw o at c.parse.ensures, refl) refl)

pub returns-then-is_within : goal.returns-then-is_within
returns-then-is_within g c =
    let part = c.in_ok-part.part in
    let o : c.parse.result ≡ Some c.in_ok-value.value = grind arith in
    taken part.bytes.now part.line c.in_ok-value.value c.in_ok-part.ensures (part.bytes, rw o at c.parse.ensures, refl) (_, c.if-is_within.ensures, refl) refl

pub returns-else-is_within : goal.returns-else-is_within
returns-else-is_within g c =
    let part = c.in_ok-part.part in
    let o : c.parse.result ≡ Some c.in_ok-value.value = grind arith in
    turned_down part.bytes.now part.line c.in_ok-value.value c.in_ok-part.ensures (part.bytes, rw o at c.parse.ensures, refl) (_, c.if-is_within.ensures, refl) refl

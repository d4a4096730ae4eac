use Rattle.std.proofs.Common.{◌≡◌, ◌++◌, Some, None, arith}
use Rattle.std.proofs.lemmas.Bool.Decides.{Decides-eqb}
use Rattle.std.proofs.lemmas.Result.{err_from_is_err_and}
use Rattle.std.proofs.lemmas.Slice.Eq.{strip_prefix_is}
use Rattle.sheet.specs.declared.fault.TextFault.TheVariants.{Malformed}
use Rattle.sheet.proofs.reader.Reader.value.Goals as goal

pub returns-in_err-bytes : goal.returns-in_err-bytes
returns-in_err-bytes c =
    let p = err_from_is_err_and c.from_residual-in_err-bytes.result c.from_residual-in_err-bytes.ensures.1 in
    let o : c.strip_prefix.result ≡ None = grind arith in
    let f : c.in_err-bytes.field-0.0 ≡ Malformed c.in_ok-line.field-0.line = grind arith in
    let h = c.in_ok-line.ensures in
    let e = strip_prefix_is Decides-eqb c.in_ok-line.field-0.bytes.now c.args.key.now None (rw o at c.strip_prefix.ensures.cases) in
    let d = h.next.due in
    let l = h.next.line in
    let n = h.numbered in
    rw (p.1, p.2, f) (record { none = λ v s. let same : c.in_ok-line.field-0.bytes.now ≡ c.args.key.now ++ v = cc in e v same; fault = cc })

pub returns : goal.returns
returns c =
    let o : c.strip_prefix.result ≡ Some c.in_ok-bytes.bytes = grind arith in
    let h = c.in_ok-line.ensures in
    let e = strip_prefix_is Decides-eqb c.in_ok-line.field-0.bytes.now c.args.key.now (Some c.in_ok-bytes.bytes) (rw o at c.strip_prefix.ensures.cases) in
    rw e at h

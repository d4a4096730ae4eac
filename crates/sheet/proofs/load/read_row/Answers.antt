use Rattle.std.proofs.Common.{rules, ◌≡◌, sym, subst, inl}
use Rattle.std.proofs.lemmas.Result.{err_from_is_err_and}
use Rattle.sheet.specs.Due.{Took}
use Rattle.sheet.specs.Form.{Accepted}
use Rattle.sheet.specs.Reading.{at}
use Rattle.sheet.specs.Sheet.{SaidRow, kind_due, reset_due, row_form, known}
use Rattle.sheet.proofs.Forms.{past}
use Rattle.sheet.proofs.Rows.{row_accepted, wired_from}
use Rattle.sheet.proofs.load.read_row.Goals as goal

pub returns-in_err-pins : goal.returns-in_err-pins
returns-in_err-pins c =
    let p = err_from_is_err_and c.from_residual-in_err-pins.result c.from_residual-in_err-pins.ensures.1 in
    let kind : Took (kind_due known) c.in_ok-kind.kind (at c.args.reader.now) (at c.read_kind.new.reader) = search rules in
    rw (p.1, p.2) (past kind (past c.in_ok-act.ensures (inl c.in_err-pins.ensures)))

pub returns-in_err-reset : goal.returns-in_err-reset
returns-in_err-reset c =
    let p = err_from_is_err_and c.from_residual-in_err-reset.result c.from_residual-in_err-reset.ensures.1 in
    let kind : Took (kind_due known) c.in_ok-kind.kind (at c.args.reader.now) (at c.read_kind.new.reader) = search rules in
    rw (p.1, p.2) (past kind (past c.in_ok-act.ensures (past c.in_ok-pins.ensures (inl (search rules)))))

pub returns-in_err-start : goal.returns-in_err-start
returns-in_err-start c =
    let p = err_from_is_err_and c.from_residual-in_err-start.result c.from_residual-in_err-start.ensures.1 in
    let kind : Took (kind_due known) c.in_ok-kind.kind (at c.args.reader.now) (at c.read_kind.new.reader) = search rules in
    let reset : Took reset_due c.in_ok-reset.reset (at c.read_pins.new.reader) (at c.read_reset.new.reader) = search rules in
    rw (p.1, p.2) (past kind (past c.in_ok-act.ensures (past c.in_ok-pins.ensures (past reset (inl c.in_err-start.ensures)))))

pub returns-in_err-auto : goal.returns-in_err-auto
returns-in_err-auto c =
    let p = err_from_is_err_and c.from_residual-in_err-auto.result c.from_residual-in_err-auto.ensures.1 in
    let kind : Took (kind_due known) c.in_ok-kind.kind (at c.args.reader.now) (at c.read_kind.new.reader) = search rules in
    let reset : Took reset_due c.in_ok-reset.reset (at c.read_pins.new.reader) (at c.read_reset.new.reader) = search rules in
    rw (p.1, p.2) (past kind (past c.in_ok-act.ensures (past c.in_ok-pins.ensures (past reset (past c.in_ok-start.ensures (inl c.in_err-auto.ensures))))))

pub returns : goal.returns
returns c =
    let k = c.args.row in
    let s : SaidRow = record { kind = c.in_ok-kind.kind; act = c.in_ok-act.act; pins = c.in_ok-pins.pins; reset = c.in_ok-reset.reset; start = c.in_ok-start.start; auto = c.in_ok-auto.auto } in
    let p0 = at c.args.reader.now in
    let p6 = at c.read_flag-2.new.reader in
    let made = c.unwrap-settings.result in
    let e : (made.kind ≡ s.kind) × ((made.start ≡ s.start) × (made.auto ≡ s.auto)) = search rules in
    let reset : Took reset_due s.reset (at c.read_pins.new.reader) (at c.read_reset.new.reader) = search rules in
    let lines = row_accepted known k s p0 (at c.read_kind.new.reader) (at c.read_act.new.reader) (at c.read_pins.new.reader) (at c.read_reset.new.reader) (at c.read_flag.new.reader) p6
    (search rules) c.in_ok-act.ensures c.in_ok-pins.ensures reset c.in_ok-start.ensures c.in_ok-auto.ensures in
    record {
      lines = subst (λ z. Accepted (row_form known k) z p0 p6) (λ i. record { kind = sym e.0 i; act = s.act; pins = s.pins; reset = s.reset; start = sym e.1.0 i; auto = sym e.1.1 i }) lines;
      wired = wired_from k (record { settings = made; act = s.act; pins = s.pins; reset = s.reset }) c.in_ok-act.ensures c.in_ok-pins.ensures reset;
    }

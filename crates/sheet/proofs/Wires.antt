-- The rows and outputs of a wiring keep what its tables keep.
use Rattle.std.proofs.Common.{◌≡◌, ◌<◌, true, eqb, ltb, get_or, sym, ap, ◌∙◌, subst, arith, length-take-le, get_or-take}
use Rattle.std.proofs.lemmas.Bool.{cond-true, lt-ltb, ltb-true}
use Rattle.sheet.specs.declared.wiring.Wiring.{Wiring}
use Rattle.sheet.specs.Wired.{row_wired, row_blank}
use Rattle.sheet.specs.Wires.{listed, routed, RowsWired, OutsWired}
use Rattle.sheet.proofs.Wired.{RowsTable, OutsTable, wiring_from}

module _ (w : Wiring) where
  pub rows_table : RowsTable w.count w.rows
  rows_table = (wiring_from w.count w.rows w.outputs w.outs w.allowed).0

  pub outs_table : OutsTable w.count w.outputs w.outs
  outs_table = (wiring_from w.count w.rows w.outputs w.outs w.allowed).1

  pub rows_wired : RowsWired w.count (listed w)
  rows_wired =
      let few = rows_table.few in
      let full = rows_table.full in
      record {
        all = length-take-le w.count w.rows (omega arith);
        each = λ k past l.
            let fits = rows_table.fits k past (omega arith) in
            let on : ltb k w.count ≡ true = lt-ltb k w.count l in
            ap (row_wired k) (get_or-take w.count w.rows k past l) ∙ sym (cond-true (ltb k w.count) (row_wired k (get_or w.rows k past)) (row_blank (get_or w.rows k past)) on) ∙ fits;
      }

  pub outs_wired : OutsWired w.count w.outputs (routed w)
  outs_wired =
      let few = outs_table.few in
      let full = outs_table.full in
      record {
        all = length-take-le w.outputs w.outs (omega arith);
        each = λ o l.
            let fits = outs_table.fits o 0 (omega arith) in
            let n = get_or w.outs o 0 in
            let on : ltb o w.outputs ≡ true = lt-ltb o w.outputs l in
            let below = ltb-true n w.count (sym (cond-true (ltb o w.outputs) (ltb n w.count) (eqb n 0) on) ∙ fits) in
            subst (λ z. z < w.count) (sym (get_or-take w.outputs w.outs o 0 l)) below;
      }

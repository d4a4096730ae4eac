-- What a wiring's type gives of each of its rows.
use Rattle.std.proofs.Common.{◌≡◌, ℕ, zero, suc, ◌<◌, ◌≤◌, Bool, true, ◌&&◌, eqb, List, [], ◌∷◌, length, get_or, sym, subst, arith}
use Rattle.std.proofs.lemmas.Bool.{and_parts, eqb-true}
use Rattle.std.specs.List.{list_all}
use Rattle.sheet.specs.declared.row.Row.{Row}
use Rattle.sheet.specs.declared.wiring.Wiring.{Wiring}
use Rattle.sheet.specs.Limits.{pin_count}
use Rattle.sheet.specs.Wired.{source_wired, reset_wired, row_wired}
use Rattle.sheet.specs.Wires.{listed, routed}
use Rattle.sheet.proofs.Wires.{rows_table, rows_wired, outs_wired}
use Rattle.values.specs.declared.source.Source.TheVariants as source
use Rattle.station.specs.Image.{table_size}
use Rattle.station.specs.Outputs.{OutsWithin}
use Rattle.station.specs.Rows.{blank_row}
use Rattle.station.specs.Wires.{Wired, WiredRow}

all_pass_at : {K : Type 0} (p : K → Bool) (d : K) (xs : List K) → list_all p xs ≡ true → (i : ℕ) → i < length xs → p (get_or xs i d) ≡ true
all_pass_at p d [] h i l = absurd (omega arith)
all_pass_at p d (x ∷ xs) h zero l = (and_parts (p x) (list_all p xs) h).0
all_pass_at p d (x ∷ xs) h (suc i) l = all_pass_at p d xs (and_parts (p x) (list_all p xs) h).1 i (omega arith)

row_is : (k : ℕ) (r : Row) → row_wired k r ≡ true → WiredRow k r
row_is k r h =
    let all = eqb (length r.pins) pin_count && list_all (source_wired k) r.pins in
    let a = and_parts (source_wired k r.act) (all && reset_wired r.reset) h in
    let b = and_parts all (reset_wired r.reset) a.1 in
    let c = and_parts (eqb (length r.pins) pin_count) (list_all (source_wired k) r.pins) b.0 in
    let long : length r.pins ≡ 4 = eqb-true (length r.pins) pin_count c.0 in
    let pin = all_pass_at (source_wired k) source.Zero r.pins c.1 in
    record {
      act = a.0;
      pin0 = pin 0 (omega arith);
      pin1 = pin 1 (omega arith);
      pin2 = pin 2 (omega arith);
      pin3 = pin 3 (omega arith);
      reset = b.1;
    }

module _ (w : Wiring) where
  pub rows_on_sheet : length (listed w) ≡ w.count
  rows_on_sheet = (rows_wired w).all

  pub wiring_wired : Wired (listed w)
  wiring_wired k l = let long = rows_on_sheet in row_is k _ ((rows_wired w).each k blank_row (omega arith))

  pub wiring_few : length (listed w) ≤ table_size
  wiring_few = let long = rows_on_sheet in let few = (rows_table w).few in omega arith

  pub wiring_outs : OutsWithin (routed w) (length (listed w))
  wiring_outs i l =
      let long = rows_on_sheet in
      let all = (outs_wired w).all in
      subst (λ n. get_or (routed w) i 0 < n) (sym long) ((outs_wired w).each i (omega arith))

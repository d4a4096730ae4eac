-- The tests of a wiring, by place, and back.
use Rattle.std.proofs.Common.{◌≡◌, ℕ, zero, suc, ◌+◌, ◌<◌, ◌≤◌, Bool, true, false, ◌&&◌, eqb, ltb, leb, List, [], ◌∷◌, length, get_or, None, refl, subst, arith}
use Rattle.std.proofs.lemmas.Bool.{and_parts, and_from, leb-true, le-leb, ltb-true, ltb-false, lt-ltb, eqb-true, eq-eqb, cond_both}
use Rattle.block.specs.declared.types.Kind.TheVariants.{And}
use Rattle.values.specs.declared.source.Source.TheVariants.{Zero}
use Rattle.sheet.specs.declared.row.Row.{Row}
use Rattle.sheet.specs.Limits.{most_rows, most_outs}
use Rattle.sheet.specs.Sheet.{Counts}
use Rattle.sheet.specs.Tables.{FilledRows, FilledOuts}
use Rattle.sheet.specs.Wired.{each_place, row_fits, out_fits, row_wired, row_blank, count_allowed, rows_allowed, outs_allowed, wiring_allowed}

module _ {X : Type 0} (test : ℕ → X → Bool) (x : X) where
  pub each_place_at : (k : ℕ) (xs : List X) → each_place test k xs ≡ true → (i n : ℕ) → k + i ≡ n → i < length xs → test n (get_or xs i x) ≡ true
  each_place_at k [] h i n e l = absurd (omega arith)
  each_place_at k (y ∷ xs) h zero n e l = let same : k ≡ n = omega arith in subst (λ z. test z y ≡ true) same (and_parts (test k y) (each_place test (suc k) xs) h).0
  each_place_at k (y ∷ xs) h (suc i) n e l = each_place_at (suc k) xs (and_parts (test k y) (each_place test (suc k) xs) h).1 i n (omega arith) (omega arith)

  pub each_place_from : (k : ℕ) (xs : List X) → ((i n : ℕ) → k + i ≡ n → i < length xs → test n (get_or xs i x) ≡ true) → each_place test k xs ≡ true
  each_place_from k [] h = refl
  each_place_from k (y ∷ xs) h =
      and_from (test k y) (each_place test (suc k) xs) (h 0 k (omega arith) (omega arith)) (each_place_from (suc k) xs (λ i n e l. h (suc i) n (omega arith) (omega arith)))

pub record Table {X : Type 0} (most : ℕ) (test : ℕ → X → Bool) (n : ℕ) (xs : List X) : Type 0 where
  pub some : 1 ≤ n
  pub few : n ≤ most
  pub full : length xs ≡ most
  pub fits : (k : ℕ) (x : X) → k < most → test k (get_or xs k x) ≡ true

module _ {X : Type 0} (most : ℕ) (test : ℕ → X → Bool) (n : ℕ) (xs : List X) where
  abbrev table_allowed : Bool
  table_allowed = count_allowed most n && (eqb (length xs) most && each_place test 0 xs)

  pub table_from : table_allowed ≡ true → Table most test n xs
  table_from h =
      let a = and_parts (count_allowed most n) (eqb (length xs) most && each_place test 0 xs) h in
      let b = and_parts (leb 1 n) (leb n most) a.0 in
      let c = and_parts (eqb (length xs) most) (each_place test 0 xs) a.1 in
      let full = eqb-true (length xs) most c.0 in
      record {
        some = leb-true 1 n b.0;
        few = leb-true n most b.1;
        full = full;
        fits = λ k x l. each_place_at test x 0 xs c.1 k k (omega arith) (omega arith);
      }

  pub from_table : X → Table most test n xs → table_allowed ≡ true
  from_table x t =
      let full = t.full in
      and_from (count_allowed most n) (eqb (length xs) most && each_place test 0 xs)
      (and_from (leb 1 n) (leb n most) (le-leb 1 n t.some) (le-leb n most t.few))
      (and_from (eqb (length xs) most) (each_place test 0 xs) (eq-eqb (length xs) most full)
      (each_place_from test x 0 xs (λ i m e l. let same : i ≡ m = omega arith in subst (λ z. test z (get_or xs i x) ≡ true) same (t.fits i x (omega arith)))))

abbrev pub RowsTable : ℕ → List Row → Type 0
RowsTable count rows = Table most_rows (row_fits count) count rows

abbrev pub OutsTable : ℕ → ℕ → List ℕ → Type 0
OutsTable count outputs outs = Table most_outs (out_fits count outputs) outputs outs

pub wiring_from : (count : ℕ) (rows : List Row) (outputs : ℕ) (outs : List ℕ) → wiring_allowed count rows outputs outs ≡ true → RowsTable count rows × OutsTable count outputs outs
wiring_from count rows outputs outs h =
    let p = and_parts (rows_allowed count rows) (outs_allowed count outputs outs) h in
    (table_from most_rows (row_fits count) count rows p.0, table_from most_outs (out_fits count outputs) outputs outs p.1)

pub from_tables : (count : ℕ) (rows : List Row) (outputs : ℕ) (outs : List ℕ) → Row → RowsTable count rows → OutsTable count outputs outs → wiring_allowed count rows outputs outs ≡ true
from_tables count rows outputs outs x a b =
    and_from (rows_allowed count rows) (outs_allowed count outputs outs) (from_table most_rows (row_fits count) count rows x a) (from_table most_outs (out_fits count outputs) outputs outs 0 b)

-- ---- from tables that were filled while lines were read

pub rows_from_filled : (count : ℕ) (rows : List Row) → Counts most_rows count → FilledRows count rows → RowsTable count rows
rows_from_filled count rows n t = record {
  some = n.0;
  few = n.1;
  full = t.full;
  fits = λ k x l. cond_both (ltb k count) (row_wired k (get_or rows k x)) (row_blank (get_or rows k x)) (λ b. b ≡ true)
      (λ on. t.good k x (ltb-true k count on)) (λ off. t.blank k x (ltb-false k count off) l);
}

pub outs_from_filled : (count outputs : ℕ) (outs : List ℕ) → Counts most_outs outputs → FilledOuts count outputs outs → OutsTable count outputs outs
outs_from_filled count outputs outs n t = record {
  some = n.0;
  few = n.1;
  full = t.full;
  fits = λ o x l. cond_both (ltb o outputs) (ltb (get_or outs o x) count) (eqb (get_or outs o x) 0) (λ b. b ≡ true)
      (λ on. lt-ltb (get_or outs o x) count (t.good o x (ltb-true o outputs on))) (λ off. eq-eqb (get_or outs o x) 0 (t.blank o x (ltb-false o outputs off) l));
}

pub any_row : Row
any_row = record { settings = record { kind = And; start = false; auto = false; allowed = refl }; act = Zero; pins = []; reset = None }

pub filled_allowed : (count : ℕ) (rows : List Row) (outputs : ℕ) (outs : List ℕ) → Counts most_rows count → Counts most_outs outputs → FilledRows count rows → FilledOuts count outputs outs → wiring_allowed count rows outputs outs ≡ true
filled_allowed count rows outputs outs n m a b = from_tables count rows outputs outs any_row (rows_from_filled count rows n a) (outs_from_filled count outputs outs m b)

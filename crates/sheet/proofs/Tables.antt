-- Tables that are filled from the front, while lines are read.
use Rattle.std.proofs.Common.{◌≡◌, ℕ, ◌+◌, ◌-◌, ◌<◌, ◌≤◌, ◌≢◌, List, [], ◌∷◌, ◌++◌, map, length, get_or, take, drop, set, replicate, length-append, length-drop, get_or-drop, get_or-take, sym, ap, ◌∙◌, subst, ⊎_elim, add-one, arith, length-set, length-take-le, get_or-set_other, get_or-set_same}
use Rattle.std.proofs.lemmas.List.{take_more_set, map_push, length-map, length-replicate, get_or-replicate}
use Rattle.std.proofs.lemmas.Bool.{cases_eq, cases_lt}
use Rattle.std.proofs.Math.ListN.{get_or-append}
use Rattle.std.proofs.Math.Seq.{get_or-append_right}
use Rattle.values.proofs.Cutting.{cut_cons}
use Rattle.sheet.specs.declared.reader.Reader.{Reader}
use Rattle.sheet.specs.declared.row.Row.{Row}
use Rattle.sheet.specs.Due.{Took}
use Rattle.sheet.specs.Form.{Accepted}
use Rattle.sheet.specs.Limits.{most_rows, most_outs}
use Rattle.sheet.specs.Lines.{Place}
use Rattle.sheet.specs.Loads.{row_said}
use Rattle.sheet.specs.Reading.{at}
use Rattle.sheet.specs.Sheet.{row_form, out_form, out_due, no_row, known}
use Rattle.sheet.specs.Tables.{RowRead, Filled, FilledRows, FilledOuts, RowsRead, OutsRead}
use Rattle.sheet.proofs.Forms.{line_accepted, done_accepted, next_left}
use Rattle.sheet.proofs.Many.{many_more}

module _ {X : Type 0} (Good : ℕ → X → Type 0) (Blank : X → Type 0) (most : ℕ) where
  pub filled_none : (x : X) → Blank x → Filled Good Blank most 0 (replicate most x)
  filled_none x h = record {
    full = length-replicate most x;
    good = λ k past l. absurd (omega arith);
    blank = λ k past l m. subst Blank (sym (get_or-replicate most k x past m)) h;
  }

  pub filled_more : (n : ℕ) (xs : List X) (x : X) → n < most → Filled Good Blank most n xs → Good n x → Filled Good Blank most (n + 1) (set xs n x)
  filled_more n xs x l t g =
      let full = t.full in
      record {
        full = length-set xs n x ∙ full;
        good = λ k past m. ⊎_elim
            (λ e. subst (λ z. Good z (get_or (set xs n x) z past)) (sym e) (subst (Good n) (sym (get_or-set_same xs n x past (omega arith))) g))
            (λ e. subst (Good k) (sym (get_or-set_other xs n k x past e)) (t.good k past (omega arith))) (cases_eq k n);
        blank = λ k past m h. let apart : k ≢ n = λ e. omega arith in subst Blank (sym (get_or-set_other xs n k x past apart)) (t.blank k past (omega arith) h);
      }

-- blank places, of which the front is handed out and the back is any
pub filled_front : {X : Type 0} (Good : ℕ → X → Type 0) (Blank : X → Type 0) (most n : ℕ) (x : X) (back : List X) → n ≤ most → Blank x → length back ≡ most - n → ((k : ℕ) (past : X) → k < length back → Blank (get_or back k past)) → Filled Good Blank most 0 (take n (replicate most x) ++ back)
filled_front Good Blank most n x back le h long rest =
    let all = length-replicate most x in
    let front : length (take n (replicate most x)) ≡ n = length-take-le n (replicate most x) (omega arith) in
    record {
      full = length-append (take n (replicate most x)) back ∙ (let e : length (take n (replicate most x)) + length back ≡ most = omega arith in e);
      good = λ k past l. absurd (omega arith);
      blank = λ k past l m. ⊎_elim
          (λ below. subst Blank (sym (get_or-append (take n (replicate most x)) back past k (omega arith) ∙ get_or-take n (replicate most x) k past below ∙ get_or-replicate most k x past m)) h)
          (λ above. subst Blank (sym (get_or-append_right (take n (replicate most x)) back k past (omega arith))) (rest (k - length (take n (replicate most x))) past (omega arith)))
          (cases_lt k n);
    }

-- what is left behind the front of blank places
pub back_blank : {X : Type 0} (Blank : X → Type 0) (most n : ℕ) (x : X) → n ≤ most → Blank x → (length (drop n (replicate most x)) ≡ most - n) × ((k : ℕ) (past : X) → k < length (drop n (replicate most x)) → Blank (get_or (drop n (replicate most x)) k past))
back_blank Blank most n x le h =
    let all = length-replicate most x in
    let long : length (drop n (replicate most x)) ≡ most - n = length-drop n (replicate most x) ∙ ap (λ y. y - n) all in
    (long, λ k past l. subst Blank (sym (get_or-drop n (replicate most x) k past ∙ get_or-replicate most (n + k) x past (omega arith))) h)

some_left : (a : Reader) → (l : List ℕ) × (ms : List (List ℕ)) × ((at a).left ≡ l ∷ ms)
some_left a = cut_cons 10 a.rest.now

pub rows_none : (a : Reader) (rows : List Row) → FilledRows 0 rows → RowsRead 0 rows a a
rows_none a rows t = record { lines = done_accepted [] (at a) (some_left a); table = t }

pub rows_more : (n : ℕ) (rows : List Row) (r : Row) (a b c : Reader) → n < most_rows → RowsRead n rows a b → RowRead n r b c → RowsRead (n + 1) (set rows n r) a c
rows_more n rows r a b c l h g =
    let full = h.table.full in
    let front : length (take n rows) ≡ n = length-take-le n rows (omega arith) in
    let all : map row_said (take (n + 1) (set rows n r)) ≡ map row_said (take n rows) ++ row_said r ∷ [] = ap (map row_said) (take_more_set rows n r (omega arith)) ∙ map_push row_said (take n rows) r in
    record {
      lines = rw (all, add-one) (many_more no_row (row_form known) n (map row_said (take n rows)) (row_said r) (at a) (at b) (at c) (length-map (take n rows) row_said ∙ front) h.lines g.lines);
      table = filled_more _ _ most_rows n rows r l h.table g.wired;
    }

pub outs_none : (count : ℕ) (a : Reader) (outs : List ℕ) → FilledOuts count 0 outs → OutsRead count 0 outs a a
outs_none count a outs t = record { lines = done_accepted [] (at a) (some_left a); table = t }

pub out_accepted : (count o n : ℕ) (p q : Place) → Took (out_due count) n p q → Accepted (out_form count o) n p q
out_accepted count o n p q t = line_accepted _ _ _ n p q q t (done_accepted n q (next_left _ p q t.next))

pub outs_more : (count n : ℕ) (outs : List ℕ) (row : ℕ) (a b c : Reader) → n < most_outs → OutsRead count n outs a b → Took (out_due count) row (at b) (at c) → OutsRead count (n + 1) (set outs n row) a c
outs_more count n outs row a b c l h g =
    let full = h.table.full in
    let front : length (take n outs) ≡ n = length-take-le n outs (omega arith) in
    let all : take (n + 1) (set outs n row) ≡ take n outs ++ row ∷ [] = take_more_set outs n row (omega arith) in
    record {
      lines = rw (all, add-one) (many_more 0 (out_form count) n (take n outs) row (at a) (at b) (at c) front h.lines (out_accepted count n row (at b) (at c) g));
      table = filled_more _ _ most_outs n outs row l h.table g.keeps.1.0;
    }

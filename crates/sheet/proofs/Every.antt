-- What holds of each kind of due line holds of every line of a sheet.
use Rattle.std.proofs.Common.{ℕ, zero, suc, Bool, [], ◌∷◌, ◌++◌, get_or, take, codes}
use Rattle.block.specs.declared.types.Kind.{Kind}
use Rattle.sheet.specs.Due.{Due}
use Rattle.sheet.specs.Form.{Form, done, line, and_then, many, Every}
use Rattle.sheet.specs.Limits.{most_rows, most_outs, least_time}
use Rattle.sheet.specs.Sheet.{count_due, time_due, kind_due, act_due, pins_due, reset_due, flag_due, out_due, row_form, out_form, no_row, sheet_form}

module _ (P : (V : Type 0) → Due V → Type 0) where
  every_then : {A B : Type 0} (f : Form A) (part : B → A) (next : A → Form B) → Every P f → ((a : A) → Every P (next a)) → Every P (and_then f part next)
  every_then (done a) part next u h = h a
  every_then (line d of more) part next u h = (u.0, λ v. every_then (more v) part next (u.1 v) h)

  every_many : {X : Type 0} (x : X) (f : ℕ → Form X) → ((k : ℕ) → Every P (f k)) → (n : ℕ) → Every P (many x f n)
  every_many x f u zero = tt
  every_many x f u (suc n) =
      every_then (many x f n) (take n) (λ xs. and_then (f n) (λ ys. get_or ys n x) (λ y. done (xs ++ y ∷ []))) (every_many x f u n) (λ xs. every_then (f n) (λ ys. get_or ys n x) (λ y. done (xs ++ y ∷ [])) (u n) (λ y. tt))

  pub record OfEach (taken : Kind → Bool) : Type 0 where
    pub rows : P ℕ (count_due (codes "rows=") most_rows)
    pub outs : P ℕ (count_due (codes "outs=") most_outs)
    pub min : P ℕ (time_due (codes "min=") least_time)
    pub max : (low : ℕ) → P ℕ (time_due (codes "max=") low)
    pub kind : P _ (kind_due taken)
    pub act : (k : ℕ) → P _ (act_due k)
    pub pins : (k : ℕ) → P _ (pins_due k)
    pub reset : P _ reset_due
    pub start : (kind : Kind) → P Bool (flag_due (codes "start=") kind)
    pub auto : (kind : Kind) → P Bool (flag_due (codes "auto=") kind)
    pub out : (count : ℕ) → P ℕ (out_due count)

  pub every_sheet : (taken : Kind → Bool) → OfEach taken → Every P (sheet_form taken)
  every_sheet taken e = (
    e.rows,
    λ count. (
      e.outs,
      λ outputs. (
        e.min,
        λ min. (
          e.max min,
          λ max.
              every_then (many no_row (row_form taken) count) (λ s. s.rows) (λ rows. and_then (many 0 (out_form count) outputs) (λ s. s.outs) (λ outs. done (record { count = count; outputs = outputs; min = min; max = max; rows = rows; outs = outs })))
              (every_many no_row (row_form taken) (λ k. (e.kind, λ kind. (e.act k, λ act. (e.pins k, λ pins. (e.reset, λ reset. (e.start kind, λ start. (e.auto kind, λ auto. tt))))))) count)
              (λ rows. every_then (many 0 (out_form count) outputs) (λ s. s.outs) (λ outs. done (record { count = count; outputs = outputs; min = min; max = max; rows = rows; outs = outs })) (every_many 0 (out_form count) (λ o. (e.out count, λ n. tt)) outputs) (λ outs. tt)),
        ),
      ),
    ),
  )

-- Each line of a sheet has one value, and its rules in their order.
use Rattle.std.proofs.Common.{◌≡◌, ℕ, ◌<◌, Bool, decimal, refl, inl, inr, arith}
use Rattle.std.proofs.lemmas.Fmt.{decimal_injective}
use Rattle.block.specs.declared.types.Kind.{Kind}
use Rattle.values.specs.Written.{two, row_text}
use Rattle.values.proofs.Same.{two_same, source_same, flag_same, reset_same, pins_same, kind_same}
use Rattle.sheet.specs.Form.{Every}
use Rattle.sheet.specs.Order.{InOrder, RulesInOrder}
use Rattle.sheet.specs.Sheet.{sheet_form}
use Rattle.sheet.proofs.Every.{every_sheet}
use Rattle.sheet.proofs.Only.{Unique}

time_same : (v w : ℕ) → v < 100000 → w < 100000 → decimal v ≡ decimal w → v ≡ w
time_same v w p q e = decimal_injective v w (omega arith) (omega arith) e

row_same : (v w : ℕ) → row_text v ≡ row_text w → v ≡ w
row_same v w e = let t : two v ≡ two w = cc in two_same v w t

pub unique_sheet : (taken : Kind → Bool) → Every Unique (sheet_form taken)
unique_sheet taken = every_sheet Unique taken (record {
  rows = λ v w p q e. two_same v w e;
  outs = λ v w p q e. two_same v w e;
  min = time_same;
  max = λ low. time_same;
  kind = λ v w p q e. kind_same v w e;
  act = λ k v w p q e. source_same v w e;
  pins = λ k. pins_same;
  reset = λ v w p q e. reset_same v w e;
  start = λ kind v w p q e. flag_same v w e;
  auto = λ kind v w p q e. flag_same v w e;
  out = λ count v w p q e. row_same v w e;
})

pub rules_in_order_lem : RulesInOrder
rules_in_order_lem taken = every_sheet InOrder taken (record {
  rows = inl (refl, inl (refl, tt));
  outs = inl (refl, inl (refl, tt));
  min = inl (refl, inl (refl, inr (inr (inr (inl (refl, tt))))));
  max = λ low. inl (refl, inl (refl, inr (inr (inr (inl (refl, tt))))));
  kind = inl (refl, tt);
  act = λ k. inl (refl, inl (refl, inl (refl, tt)));
  pins = λ k. inl (refl, inl (refl, inl (refl, tt)));
  reset = inl (refl, inl (refl, tt));
  start = λ kind. inl (refl, inr (inr (inr (inl (refl, tt)))));
  auto = λ kind. inl (refl, inr (inr (inr (inl (refl, tt)))));
  out = λ count. inl (refl, inl (refl, inr (inl (refl, tt))));
})

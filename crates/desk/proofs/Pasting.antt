-- What a call at a desk leaves, by the sizes that it is lent.
use Rattle.std.proofs.Common.{◌≡◌, ℕ, true, false, eqb, List, length, take, Ok, Err, sym, refl, ap, subst}
use Rattle.std.proofs.lemmas.Bool.{and_parts, both_ways, eqb-true}
use Rattle.block.specs.Meaning.{Meaning}
use Rattle.script.specs.declared.command.Command.TheVariants as command
use Rattle.sheet.specs.declared.wiring.Wiring.{Wiring}
use Rattle.station.specs.declared.station.Station.{Station}
use Rattle.station.specs.declared.refusal.LoadRefusal.TheVariants.{Lent, Sheet}
use Rattle.station.specs.Calls.{Effect, Steps, Stops, Leaves, effect, sizes_allowed}
use Rattle.station.specs.Histories.{History, Fits}
use Rattle.station.specs.Image.{table_size, outputs_size}
use Rattle.station.specs.Stations.{CallLeaves, LeavesAll}
use Rattle.desk.specs.declared.answer.Reply.{Reply}
use Rattle.desk.specs.declared.request.Call.{Call}
use Rattle.desk.specs.declared.request.Call.TheVariants.{Load, Command}
use Rattle.desk.specs.Calls.{Outcome, accepted, as_history}
use Rattle.desk.specs.Desks.{lent}
use Rattle.desk.proofs.Lent.{own_part}

-- with wrong sizes no call does anything
pub no_effect : (c : Call) (blocks bytes : ℕ) → sizes_allowed blocks bytes ≡ false → effect (as_history c blocks bytes) ≡ Leaves
no_effect (Load sheet) blocks bytes e = refl
no_effect (Command (command.Scan image elapsed)) blocks bytes e = rw e
no_effect (Command command.Halt) blocks bytes e = rw e
no_effect (Command (command.Report row size)) blocks bytes e = refl
no_effect (Command (command.Needs output)) blocks bytes e = refl

module _ {B : Type 0} (m : Meaning B) where
  leaves_at : (x : Effect) (s s' : Station) (t t' : List B) (o o' : List ℕ) → x ≡ Leaves → CallLeaves m x s s' t t' o o' → LeavesAll s s' t t' o o'
  leaves_at x s s' t t' o o' e d = subst (λ (y : Effect). CallLeaves m y s s' t t' o o') e d

  call_wiring : (x : Effect) (s s' : Station) (t t' : List B) (o o' : List ℕ) → CallLeaves m x s s' t t' o o' → s'.wiring ≡ s.wiring
  call_wiring (Steps image elapsed) s s' t t' o o' d = d.wiring
  call_wiring Stops s s' t t' o o' d = d.wiring
  call_wiring Leaves s s' t t' o o' d = d.wiring

  -- and leaves all as found
  pub leaves_all : (c : Call) (a : Reply) (s s' : Station) (t t' : List B) (o o' : List ℕ) → Outcome m c a s s' t t' o o' → sizes_allowed (length t) (length o) ≡ false → LeavesAll s s' t t' o o'
  leaves_all (Load sheet) a s s' t t' o o' (Ok x, e, out) n = absurd (both_ways _ n out.0)
  leaves_all (Load sheet) a s s' t t' o o' (Err Lent, e, out) n = out.1.leaves
  leaves_all (Load sheet) a s s' t t' o o' (Err (Sheet f), e, out) n = out.2.leaves
  leaves_all (Command (command.Scan image elapsed)) a s s' t t' o o' out n = leaves_at _ s s' t t' o o' (no_effect (Command (command.Scan image elapsed)) (length t) (length o) n) out.1
  leaves_all (Command command.Halt) a s s' t t' o o' out n = leaves_at _ s s' t t' o o' (no_effect (Command command.Halt) (length t) (length o) n) out.1
  leaves_all (Command (command.Report row size)) a s s' t t' o o' out n = out.3
  leaves_all (Command (command.Needs output)) a s s' t t' o o' out n = out.3

  -- a refused loading, and every other call, keeps the wiring
  pub keeps_wiring : (c : Call) (a : Reply) (s s' : Station) (t t' : List B) (o o' : List ℕ) → Outcome m c a s s' t t' o o' → accepted a ≡ false → s'.wiring ≡ s.wiring
  keeps_wiring (Load sheet) a s s' t t' o o' (Ok x, e, out) n = absurd (both_ways _ n (ap accepted e))
  keeps_wiring (Load sheet) a s s' t t' o o' (Err Lent, e, out) n = out.1.leaves.wiring
  keeps_wiring (Load sheet) a s s' t t' o o' (Err (Sheet f), e, out) n = out.2.leaves.wiring
  keeps_wiring (Command (command.Scan image elapsed)) a s s' t t' o o' out n = call_wiring (effect (as_history (Command (command.Scan image elapsed)) (length t) (length o))) s s' t t' o o' out.1
  keeps_wiring (Command command.Halt) a s s' t t' o o' out n = call_wiring (effect (as_history (Command command.Halt) (length t) (length o))) s s' t t' o o' out.1
  keeps_wiring (Command (command.Report row size)) a s s' t t' o o' out n = out.3.wiring
  keeps_wiring (Command (command.Needs output)) a s s' t t' o o' out n = out.3.wiring

  module _ (w : Wiring) (f : History → ℕ → B) (h : History) (s : Station) (b n : ℕ) (t : List B) (o : List ℕ) (sizes : sizes_allowed (length (lent b t)) (length (lent n o)) ≡ true) where
    blocks_own : take b t ≡ take table_size t
    blocks_own = own_part b table_size t (eqb-true (length (lent b t)) table_size (and_parts (eqb (length (lent b t)) table_size) (eqb (length (lent n o)) outputs_size) sizes).0)

    bytes_own : take n o ≡ take outputs_size o
    bytes_own = own_part n outputs_size o (eqb-true (length (lent n o)) outputs_size (and_parts (eqb (length (lent b t)) table_size) (eqb (length (lent n o)) outputs_size) sizes).1)

    -- with the right sizes, what is lent is the station's own
    pub lent_fits : Fits m w f h s (take table_size t) (take outputs_size o) → Fits m w f h s (lent b t) (lent n o)
    lent_fits fits = subst (λ (x : List B). Fits m w f h s x (lent n o)) (sym blocks_own) (subst (λ (x : List ℕ). Fits m w f h s (take table_size t) x) (sym bytes_own) fits)

    pub own_fits : Fits m w f h s (lent b t) (lent n o) → Fits m w f h s (take table_size t) (take outputs_size o)
    own_fits fits = subst (λ (x : List B). Fits m w f h s x (take outputs_size o)) blocks_own (subst (λ (x : List ℕ). Fits m w f h s (lent b t) x) bytes_own fits)

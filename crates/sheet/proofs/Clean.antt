-- No line of a sheet has a line feed in it, so that its text is cut into its lines again.
use Rattle.std.proofs.Common.{◌≡◌, ℕ, Bool, true, List, [], ◌∷◌, ◌++◌, codes, sym, refl, ap, ◌∙◌, append_assoc, arith}
use Rattle.block.specs.declared.types.Kind.{Kind}
use Rattle.values.specs.Cut.{join_at}
use Rattle.std.specs.List.{AllByRecursion}
use Rattle.values.proofs.Clear.{two_clear, time_clear, source_clear, pins_clear, reset_clear, kind_clear, flag_clear}
use Rattle.values.proofs.Cutting.{cut_cons}
use Rattle.values.proofs.Glue.{Clear, clear_append, clear_test, clear_from, cut_piece, join_cut}
use Rattle.sheet.specs.Due.{Due}
use Rattle.sheet.specs.Form.{Form, done, line, lines_of, Lawful, SomeLeft, Every}
use Rattle.sheet.specs.Lines.{pieces, flat}
use Rattle.sheet.specs.Sheet.{Said, sheet_form}
use Rattle.sheet.proofs.Every.{every_sheet}
use Rattle.sheet.proofs.Forms.{left_append}

abbrev Clean : (V : Type 0) → Due V → Type 0
Clean V d = Clear 10 d.key × ((v : V) → d.plain v → Clear 10 (d.body v))

clean_lines : {A : Type 0} (f : Form A) (a : A) → Every Clean f → Lawful f a → AllByRecursion (Clear 10) (lines_of f a)
clean_lines (done b) a u h = tt
clean_lines (line d of next) a u h = (clear_append 10 d.key (d.body (of a)) u.0.0 (u.0.1 (of a) h.0), clean_lines (next (of a)) a (u.1 (of a)) h.2)

-- a key that is written out
key : (k : List ℕ) → clear_test 10 k ≡ true → Clear 10 k
key k h = clear_from 10 k h

clean_sheet : (taken : Kind → Bool) → Every Clean (sheet_form taken)
clean_sheet taken = every_sheet Clean taken (record {
  rows = (key (codes "rows=") refl, λ v p. two_clear 10 v (omega arith));
  outs = (key (codes "outs=") refl, λ v p. two_clear 10 v (omega arith));
  min = (key (codes "min=") refl, λ v p. time_clear 10 v (omega arith) p);
  max = λ low. (key (codes "max=") refl, λ v p. time_clear 10 v (omega arith) p);
  kind = (key (codes "kind=") refl, λ v p. kind_clear v);
  act = λ k. (key (codes "act=") refl, λ v p. source_clear 10 v (omega arith));
  pins = λ k. (key (codes "pins=") refl, λ v p. pins_clear 10 v (omega arith));
  reset = (key (codes "reset=") refl, λ v p. reset_clear v);
  start = λ kind. (key (codes "start=") refl, λ v p. flag_clear v);
  auto = λ kind. (key (codes "auto=") refl, λ v p. flag_clear v);
  out = λ count. (key (codes "out=") refl, λ v p. (λ e. omega arith, two_clear 10 v (omega arith)));
})

-- the pieces of lines that have no line feed in them
pieces_flat : (ls : List (List ℕ)) (rest : List ℕ) → AllByRecursion (Clear 10) ls → pieces (flat ls ++ rest) ≡ ls ++ pieces rest
pieces_flat [] rest c = refl
pieces_flat (l ∷ ls) rest c = ap pieces (append_assoc l (10 ∷ flat ls) rest) ∙ cut_piece 10 l (flat ls ++ rest) c.0 ∙ ap (λ z. l ∷ z) (pieces_flat ls rest c.1)

join_next : (l : List ℕ) (ks : List (List ℕ)) → SomeLeft ks → join_at 10 (l ∷ ks) ≡ l ++ 10 ∷ join_at 10 ks
join_next l ks s = let e = s.2 in rw e

join_flat : (ls : List (List ℕ)) (rest : List ℕ) → join_at 10 (ls ++ pieces rest) ≡ flat ls ++ rest
join_flat [] rest = join_cut 10 rest
join_flat (l ∷ ls) rest =
    join_next l (ls ++ pieces rest) (left_append ls (pieces rest) (cut_cons 10 rest)) ∙ ap (λ z. l ++ 10 ∷ z) (join_flat ls rest) ∙ sym (append_assoc l (10 ∷ flat ls) rest)

-- the lines that a text begins with
pub text_from_pieces : (s rest : List ℕ) (ls : List (List ℕ)) → pieces s ≡ ls ++ pieces rest → s ≡ flat ls ++ rest
text_from_pieces s rest ls e = sym (join_cut 10 s) ∙ ap (join_at 10) e ∙ join_flat ls rest

-- and back
pub pieces_from_text : (taken : Kind → Bool) (t : Said) (s rest : List ℕ) → Lawful (sheet_form taken) t → s ≡ flat (lines_of (sheet_form taken) t) ++ rest → pieces s ≡ lines_of (sheet_form taken) t ++ pieces rest
pieces_from_text taken t s rest h e = ap pieces e ∙ pieces_flat (lines_of (sheet_form taken) t) rest (clean_lines (sheet_form taken) t (clean_sheet taken) h)

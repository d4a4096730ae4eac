-- Every past that fits goes on through a request, and the promises hold then.
use Rattle.std.proofs.Common.{◌≡◌, ℕ, Bool, true, false, List, [], ◌∷◌, length, take, Some, None, Ok, Err, MatchBool, sym, refl, ap, ◌∙◌, subst, ⊎_elim}
use Rattle.std.proofs.lemmas.Bool.{both_ways, cases_Bool}
use Rattle.block.specs.Laws.{StepLaws}
use Rattle.block.specs.Meaning.{Meaning}
use Rattle.script.specs.declared.command.Command.TheVariants as command
use Rattle.sheet.specs.declared.wiring.Wiring.{Wiring}
use Rattle.station.specs.declared.station.Station.{Station}
use Rattle.station.specs.Calls.{sizes_allowed}
use Rattle.station.specs.Histories.{History, FollowsRules, Fits}
use Rattle.station.specs.Image.{table_size, outputs_size}
use Rattle.station.proofs.Promises.{fits_promised}
use Rattle.desk.specs.declared.answer.Reply.{Reply}
use Rattle.desk.specs.declared.desk.Desk.{Desk}
use Rattle.desk.specs.declared.request.Call.{Call}
use Rattle.desk.specs.declared.request.Call.TheVariants.{Load, Command}
use Rattle.desk.specs.declared.request.Request.{Request}
use Rattle.desk.specs.declared.request.Request.TheVariants as request
use Rattle.desk.specs.Calls.{Called, Outcome, accepted, as_history}
use Rattle.desk.specs.Desks.{lent, KeepsRest, Lends}
use Rattle.desk.specs.Pasts.{Past, Fresh, Since, Begins, FitsPast, KeepsPromises, EveryPastGoesOn, calls_of, longer}
use Rattle.desk.proofs.Lent.{same_parts}
use Rattle.desk.proofs.Pasting.{no_effect, leaves_all, keeps_wiring, lent_fits, own_fits}

module _ {B : Type 0} (m : Meaning B) (laws : StepLaws m) where
  pub past_promised : (p : Past) (d : Desk) (t : List B) (o : List ℕ) → FitsPast m p d t o → KeepsPromises m p t o
  past_promised Fresh d t o fits = tt
  past_promised (Since w h) d t o fits = λ f rules. fits_promised m laws w f rules h d.station (take table_size t) (take outputs_size o) (fits f rules)

  module _ (c : Call) (a : Reply) (d d' : Desk) (t t' : List B) (o o' : List ℕ)
      (called : Called m c a d.station d'.station (lent d.blocks t) (lent d.blocks t') (lent d.bytes o) (lent d.bytes o'))
      (table : KeepsRest d.blocks t t') (outputs : KeepsRest d.bytes o o')
      (blocks_same : length (lent d.blocks t') ≡ length (lent d.blocks t)) (bytes_same : length (lent d.bytes o') ≡ length (lent d.bytes o)) where
    sizes_after : sizes_allowed (length (lent d.blocks t)) (length (lent d.bytes o)) ≡ true → sizes_allowed (length (lent d.blocks t')) (length (lent d.bytes o')) ≡ true
    sizes_after e = ap (λ (n : ℕ). sizes_allowed n (length (lent d.bytes o'))) blocks_same ∙ ap (λ (n : ℕ). sizes_allowed (length (lent d.blocks t)) n) bytes_same ∙ e

    -- a call that is no accepted loading, on the station's own table or on another
    fits_on : accepted a ≡ false → (w : Wiring) (f : History → ℕ → B) → FollowsRules m w f → (h : History) → Fits m w f h d.station (take table_size t) (take outputs_size o) → Fits m w f (as_history c (length (lent d.blocks t)) (length (lent d.bytes o)) ∷ h) d'.station (take table_size t') (take outputs_size o')
    fits_on n w f rules h fits = ⊎_elim
        (λ (yes_sizes : sizes_allowed (length (lent d.blocks t)) (length (lent d.bytes o)) ≡ true).
        own_fits m w f _ d'.station d.blocks d.bytes t' o' (sizes_after yes_sizes)
        ((called.history n).fits w f rules h (lent_fits m w f h d.station d.blocks d.bytes t o yes_sizes fits)))
        (λ (no_sizes : sizes_allowed (length (lent d.blocks t)) (length (lent d.bytes o)) ≡ false).
        let all = leaves_all m c a d.station d'.station (lent d.blocks t) (lent d.blocks t') (lent d.bytes o) (lent d.bytes o') called.outcome no_sizes in
        let same_table = same_parts d.blocks t t' all.table table in
        let same_bytes = same_parts d.bytes o o' all.outputs outputs in
        let next : History = as_history c (length (lent d.blocks t)) (length (lent d.bytes o)) ∷ h in
        let on = (called.history n).elsewhere (no_effect c _ _ no_sizes) w f rules h (take table_size t) (take outputs_size o) fits in
        subst (λ (x : List B). Fits m w f next d'.station (take table_size x) (take outputs_size o')) (sym same_table) (subst (λ (x : List ℕ). Fits m w f next d'.station (take table_size t) (take outputs_size x)) (sym same_bytes) on))
        (cases_Bool (sizes_allowed (length (lent d.blocks t)) (length (lent d.bytes o))))

    -- an accepted loading begins a history
    begun : Outcome m c a d.station d'.station (lent d.blocks t) (lent d.blocks t') (lent d.bytes o) (lent d.bytes o') → accepted a ≡ true → (p' : Past) × Begins (request.Call c) p' × FitsPast m p' d' t' o'
    begun = begun_by c refl
      where
        begun_by : (x : Call) → c ≡ x → Outcome m x a d.station d'.station (lent d.blocks t) (lent d.blocks t') (lent d.bytes o) (lent d.bytes o') → accepted a ≡ true → (p' : Past) × Begins (request.Call x) p' × FitsPast m p' d' t' o'
        begun_by (Load sheet) e (Ok x, reply, out) n =
            let w = out.1.wiring in
            (Since w [], (w, out.1.written, refl), λ f rules. own_fits m w f [] d'.station d.blocks d.bytes t' o' (sizes_after out.0) (out.1.begins f rules))
        begun_by (Load sheet) e (Err r, reply, out) n = absurd (both_ways _ (ap accepted reply) n)
        begun_by (Command (command.Scan image elapsed)) e out n = absurd (both_ways _ (ap accepted out.0) n)
        begun_by (Command command.Halt) e out n = absurd (both_ways _ (ap accepted out.0) n)
        begun_by (Command (command.Report row size)) e out n = absurd (both_ways _ (ap accepted out.1) n)
        begun_by (Command (command.Needs output)) e out n = absurd (both_ways _ (ap accepted out.1) n)

    went_on : accepted a ≡ false → (p : Past) → FitsPast m p d t o → FitsPast m (longer (calls_of (request.Call c) d t o) p) d' t' o'
    went_on n Fresh fits = keeps_wiring m c a d.station d'.station (lent d.blocks t) (lent d.blocks t') (lent d.bytes o) (lent d.bytes o') called.outcome n ∙ fits
    went_on n (Since w h) fits = λ f rules. fits_on n w f rules h (fits f rules)

    pub call_goes_on : (outputs : List ℕ) → EveryPastGoesOn m (request.Call c) (Some (record { reply = a; outputs = outputs })) d d' t t' o o'
    call_goes_on outputs p fits = ⊎_elim
        (λ (e : accepted a ≡ true).
        let b = begun called.outcome e in
        (b.0, record { grows = subst (λ (x : Bool). MatchBool x (Begins (request.Call c) b.0) (b.0 ≡ longer (calls_of (request.Call c) d t o) p)) (sym e) b.1; fits = b.2; promised = past_promised b.0 d' t' o' b.2 }))
        (λ (e : accepted a ≡ false).
        let p' = longer (calls_of (request.Call c) d t o) p in
        let on = went_on e p fits in
        (p', record { grows = subst (λ (x : Bool). MatchBool x (Begins (request.Call c) p') (p' ≡ longer (calls_of (request.Call c) d t o) p)) (sym e) refl; fits = on; promised = past_promised p' d' t' o' on }))
        (cases_Bool (accepted a))

  -- lending more or less is no call
  same_past : (p : Past) → longer [] p ≡ p
  same_past Fresh = refl
  same_past (Since w h) = refl

  moved : (p : Past) (d d' : Desk) (t t' : List B) (o o' : List ℕ) → d'.station ≡ d.station → t' ≡ t → o' ≡ o → FitsPast m p d t o → FitsPast m p d' t' o'
  moved Fresh d d' t t' o o' s table outputs fits = ap (λ (x : Station). x.wiring) s ∙ fits
  moved (Since w h) d d' t t' o o' s table outputs fits = λ f rules.
      subst (λ (x : Station). Fits m w f h x (take table_size t') (take outputs_size o')) (sym s)
      (subst (λ (x : List B). Fits m w f h d.station (take table_size x) (take outputs_size o')) (sym table) (subst (λ (x : List ℕ). Fits m w f h d.station (take table_size t) (take outputs_size x)) (sym outputs) (fits f rules)))

  pub lends_goes_on : (r : Request) (blocks bytes : ℕ) (d d' : Desk) (t t' : List B) (o o' : List ℕ) → calls_of r d t o ≡ [] → Lends m blocks bytes None d d' t t' o o' → EveryPastGoesOn m r None d d' t t' o o'
  lends_goes_on r blocks bytes d d' t t' o o' none lends p fits =
      let on = moved p d d' t t' o o' lends.station lends.table lends.outputs fits in
      (p, record { grows = sym (ap (λ (h : History). longer h p) none ∙ same_past p); fits = on; promised = past_promised p d' t' o' on })

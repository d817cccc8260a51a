-- The numbers of a history's tasks, and that only submitted tasks are named.
use Rattle.std.proofs.Common.{◌≡◌, ◌≢◌, ◌⊎◌, ℕ, ◌+◌, ◌==◌, ◌<◌, Bool, true, false, true≢false, List, [], ◌∷◌, ◌++◌, length, Some, slice_get, Contains, refl, ap, sym, ◌∙◌, subst, inl, inr, arith}
use Rattle.std.proofs.lemmas.Bool.{cases_Bool, eqb-true}
use Rattle.std.proofs.lemmas.Option.{slice_get_within}
use Rattle.css_record.specs.declared.task_record.TaskRecord.{TaskRecord}
use Rattle.css_task.specs.Alone.{End, Outs, Halted}
use Rattle.css_yard.specs.Values.{Submit}
use Rattle.css_yard.proofs.Lists.{place_of, last_or_before}
use Rattle.css_graph.specs.Tasks.{is_among}
use Rattle.css_seen.specs.Facts.{Lasts}
use Rattle.css_seen.proofs.Lasting.{of_legal}
use Rattle.css_history.specs.declared.entry.Entry.{Entry}
use Rattle.css_history.specs.declared.entry.Entry.TheVariants as entries
use Rattle.css_history.specs.Terms.{Terms}
use Rattle.css_history.specs.Histories.{maker, submitted, submits, Standing, Waiting, Held, Ended, named, comes, standing}
use Rattle.css_history.specs.Rules.{IsSubmit, MayTake, MayEnd}
use Rattle.css_history.specs.Legal.{MayFollow, Legal}
use Rattle.css_history.proofs.Bools.{or_either, among_one}
use Rattle.css_history.proofs.Histories.{submits_more, submits_same, still_submit, not_named, is_named}

-- an entry is a submit, or submits nothing
pub submits_or : (e : Entry) → (submitted e ≡ []) ⊎ ((r : TaskRecord) × (given : List (List ℕ)) × (e ≡ entries.Submit r given))
submits_or (entries.Submit rec given) = inr (rec, given, refl)
submits_or (entries.Take w numbers) = inl refl
submits_or (entries.Finish w n outs) = inl refl
submits_or (entries.Stop w n stop line) = inl refl
submits_or (entries.Back w numbers) = inl refl
submits_or (entries.Starved w) = inl refl
submits_or entries.Close = inl refl

module _ (b : Terms) where
  abbrev AreNumbered : List Entry → Type 0
  AreNumbered log = (k : ℕ) (s : Submit) → slice_get (submits log) k ≡ Some s → s.rec.number ≡ b.first + k

  next_step : (log : List Entry) (r : TaskRecord) (given : List (List ℕ)) → MayFollow b log (entries.Submit r given) → AreNumbered log → AreNumbered (log ++ entries.Submit r given ∷ [])
  next_step log r given may are k s is =
      let it : Submit = record { rec = r; given = given } in
      elim (last_or_before (submits log) it k s (subst (λ l. slice_get l k ≡ Some s) (submits_more log (entries.Submit r given)) is)) [
        | inl before ↦ are k s before
        | inr last ↦ omega (arith, ap (λ (x : Submit). x.rec.number) last.1, may.follows.number, last.0)
      ]

  numbered_step : Lasts maker (MayFollow b) AreNumbered
  numbered_step log e was may are = elim (submits_or e) [
    | inl none ↦ λ k s is. are k s (subst (λ l. slice_get l k ≡ Some s) (submits_same log e none) is)
    | inr (r, given, is) ↦ subst (λ (x : Entry). AreNumbered (log ++ x ∷ [])) (sym is) (next_step log r given (subst (MayFollow b log) is may) are)
  ]

  pub numbered : (log : List Entry) → Legal b log → (k : ℕ) (s : Submit) → slice_get (submits log) k ≡ Some s → s.rec.number ≡ b.first + k
  numbered log legal = of_legal maker (MayFollow b) AreNumbered (λ k s is. absurd (cc)) numbered_step log legal

  -- the place of a task's submit
  pub index_of : (log : List Entry) → Legal b log → (n : ℕ) (s : Submit) → IsSubmit log n s → (k : ℕ) × (slice_get (submits log) k ≡ Some s) × (n ≡ b.first + k)
  index_of log legal n s is =
      let at = place_of (submits log) s is.is_there in
      (at.0, at.1, sym is.number ∙ numbered log legal at.0 s at.1)

  -- ---- only submitted tasks are named

  abbrev AreSubmits : List Entry → Type 0
  AreSubmits log = (n : ℕ) → standing n log ≢ Waiting → (s : Submit) × IsSubmit log n s

  taken_submit : (log : List Entry) (before numbers : List ℕ) (n : ℕ) → MayTake log before numbers → is_among numbers n ≡ true → (s : Submit) × IsSubmit log n s
  taken_submit log before [] n may e = absurd (true≢false (sym e))
  taken_submit log before (m ∷ numbers) n may e = elim (or_either (m == n) (is_among numbers n) e) [
    | inl here ↦ (may.0.submit, subst (λ (k : ℕ). IsSubmit log k may.0.submit) (eqb-true m n here) may.0.is_submit)
    | inr there ↦ taken_submit log (before ++ m ∷ []) numbers n may.1 there
  ]

  ended_submit : (log : List Entry) (w m n : ℕ) → MayEnd log w m → is_among (m ∷ []) n ≡ true → (s : Submit) × IsSubmit log n s
  ended_submit log w m n may e = (may.submit, subst (λ (k : ℕ). IsSubmit log k may.submit) (among_one m n e) may.is_submit)

  named_submit : (log : List Entry) (e : Entry) (n : ℕ) → MayFollow b log e → is_among (named e) n ≡ true → comes e ≢ Waiting → (s : Submit) × IsSubmit log n s
  named_submit log (entries.Submit rec given) n may e out = absurd (out refl)
  named_submit log (entries.Take w numbers) n may e out = taken_submit log [] numbers n may.follows e
  named_submit log (entries.Finish w m outs) n may e out = ended_submit log w m n may.follows e
  named_submit log (entries.Stop w m stop line) n may e out = ended_submit log w m n may.follows e
  named_submit log (entries.Back w numbers) n may e out = absurd (out refl)
  named_submit log (entries.Starved w) n may e out = absurd (out refl)
  named_submit log entries.Close n may e out = absurd (out refl)

  submits_step : Lasts maker (MayFollow b) AreSubmits
  submits_step log e was may are n out =
      let old : (s : Submit) × IsSubmit log n s = elim (cases_Bool (is_among (named e) n)) [
        | inl names ↦ named_submit log e n may names (λ waits. out (is_named log e n names ∙ waits))
        | inr none ↦ are n (λ waits. out (not_named log e n none ∙ waits))
      ] in
      (old.0, still_submit log e n old.0 old.1)

  pub submit_of : (log : List Entry) → Legal b log → (n : ℕ) → standing n log ≢ Waiting → (s : Submit) × IsSubmit log n s
  submit_of log legal = of_legal maker (MayFollow b) AreSubmits (λ n out. absurd (out refl)) submits_step log legal

  waits_or : (s : Standing) → (s ≡ Waiting) ⊎ (s ≢ Waiting)
  waits_or Waiting = inl refl
  waits_or (Held w) = inr (λ e. cc)
  waits_or (Ended end) = inr (λ e. cc)

  -- the task that is submitted next waits
  pub next_waits : (log : List Entry) → Legal b log → standing (b.first + length (submits log)) log ≡ Waiting
  next_waits log legal = elim (waits_or (standing (b.first + length (submits log)) log)) [
    | inl waits ↦ waits
    | inr out ↦
        let it = submit_of log legal (b.first + length (submits log)) out in
        let at = index_of log legal (b.first + length (submits log)) it.0 it.1 in
        absurd (omega (arith, at.2, slice_get_within (submits log) at.0 it.0 at.1))
  ]

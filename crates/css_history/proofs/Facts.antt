-- What a seat knows, and that it goes on to know it.
use Rattle.std.proofs.Common.{◌≡◌, ◌≢◌, ◌⊎◌, ℕ, ◌+◌, ◌==◌, ◌||◌, Bool, true, false, true≢false, List, [], ◌∷◌, ◌++◌, refl, ap, sym, ◌∙◌, subst, inl, inr, All}
use Rattle.std.proofs.lemmas.Bool.{cases_Bool, eqb-true, eq-eqb}
use Rattle.std.proofs.lemmas.List.Elements.{All-weaker}
use Rattle.css_record.specs.declared.task_record.TaskRecord.{TaskRecord}
use Rattle.css_record.specs.declared.version.VersionName.{VersionName}
use Rattle.css_record.specs.declared.version.VersionName.TheVariants as names
use Rattle.css_task.specs.Alone.{End, Outs}
use Rattle.css_yard.specs.Values.{Submit}
use Rattle.css_graph.specs.Tasks.{is_among}
use Rattle.css_seen.specs.Facts.{Lasts, Stays}
use Rattle.css_history.specs.declared.entry.Entry.{Entry}
use Rattle.css_history.specs.declared.entry.Entry.TheVariants as entries
use Rattle.css_history.specs.Terms.{Terms}
use Rattle.css_history.specs.Histories.{maker, submits, Ended, standing, IsFinished, held, closes, hungry, is_worker, is_closed, has_starved}
use Rattle.css_history.specs.Rules.{IsSubmit, IsReady, AreReady, MayStand, MayTake, MayEnd}
use Rattle.css_history.specs.Bodies.{IsFound, AreFound, IsOfBody}
use Rattle.css_history.specs.Legal.{MayFollow, Legal}
use Rattle.css_history.specs.Seats.{IsInTurn, AreInTurn, MayTell}
use Rattle.css_history.proofs.Bools.{or_either, or_neither}
use Rattle.css_history.proofs.Histories.{submits_same, still_submit, is_named, held_same, none_more, other_fed}
use Rattle.css_history.proofs.Standings.{ended_lasts}

module _ (b : Terms) where
  pub holds_stays : (w : ℕ) (numbers : List ℕ) → Stays maker (MayFollow b) (w + 1) (λ log. held w log ≡ numbers)
  holds_stays w numbers log e was may apart is = held_same w log e apart ∙ is

  pub fed_stays : (w : ℕ) → Stays maker (MayFollow b) (w + 1) (λ log. has_starved w log ≡ false)
  fed_stays w log e was may apart is = none_more (λ x. is_worker w (hungry x)) log e is (other_fed w e apart)

  pub submits_stay : (tasks : List Submit) → Stays maker (MayFollow b) 0 (λ log. submits log ≡ tasks)
  submits_stay tasks log (entries.Submit rec given) was may apart is = absurd (apart refl)
  submits_stay tasks log (entries.Take w numbers) was may apart is = submits_same log (entries.Take w numbers) refl ∙ is
  submits_stay tasks log (entries.Finish w n outs) was may apart is = submits_same log (entries.Finish w n outs) refl ∙ is
  submits_stay tasks log (entries.Stop w n stop line) was may apart is = submits_same log (entries.Stop w n stop line) refl ∙ is
  submits_stay tasks log (entries.Back w numbers) was may apart is = submits_same log (entries.Back w numbers) refl ∙ is
  submits_stay tasks log (entries.Starved w) was may apart is = submits_same log (entries.Starved w) refl ∙ is
  submits_stay tasks log entries.Close was may apart is = absurd (apart refl)

  pub open_stays : Stays maker (MayFollow b) 0 (λ log. is_closed log ≡ false)
  open_stays log (entries.Submit rec given) was may apart is = absurd (apart refl)
  open_stays log (entries.Take w numbers) was may apart is = none_more closes log (entries.Take w numbers) is refl
  open_stays log (entries.Finish w n outs) was may apart is = none_more closes log (entries.Finish w n outs) is refl
  open_stays log (entries.Stop w n stop line) was may apart is = none_more closes log (entries.Stop w n stop line) is refl
  open_stays log (entries.Back w numbers) was may apart is = none_more closes log (entries.Back w numbers) is refl
  open_stays log (entries.Starved w) was may apart is = none_more closes log (entries.Starved w) is refl
  open_stays log entries.Close was may apart is = absurd (apart refl)

  -- ---- what every entry leaves true

  pub submit_lasts : (n : ℕ) (s : Submit) → Lasts maker (MayFollow b) (λ log. IsSubmit log n s)
  submit_lasts n s log e was may is = still_submit log e n s is

  pub found_lasts : (given : List (List ℕ)) (version : VersionName) (bytes : List ℕ) → Lasts maker (MayFollow b) (λ log. IsFound log given version bytes)
  found_lasts given (names.Given place) bytes log e was may is = is
  found_lasts given (names.Made task out) bytes log e was may (outs, ended, is) = (outs, ended_lasts b task (Outs outs) log e was may ended, is)

  pub all_found_last : (given : List (List ℕ)) (versions : List VersionName) (values : List (List ℕ)) → Lasts maker (MayFollow b) (λ log. AreFound log given versions values)
  all_found_last given [] [] log e was may are = tt
  all_found_last given [] (bytes ∷ values) log e was may are = absurd are
  all_found_last given (version ∷ versions) [] log e was may are = absurd are
  all_found_last given (version ∷ versions) (bytes ∷ values) log e was may are =
      (found_lasts given version bytes log e was may are.0, all_found_last given versions values log e was may are.1)

  pub finished_lasts : (n : ℕ) → Lasts maker (MayFollow b) (IsFinished n)
  finished_lasts n log e was may (outs, is) = (outs, ended_lasts b n (Outs outs) log e was may is)

  ready_lasts : (before : List ℕ) (version : VersionName) → Lasts maker (MayFollow b) (λ log. IsReady log before version)
  ready_lasts before (names.Given place) log e was may is = tt
  ready_lasts before (names.Made task out) log e was may (inl finished) = inl (finished_lasts task log e was may finished)
  ready_lasts before (names.Made task out) log e was may (inr among) = inr among

  pub all_ready_last : (before : List ℕ) (r : TaskRecord) → Lasts maker (MayFollow b) (λ log. AreReady log before r)
  all_ready_last before r log e was may are =
      All-weaker (IsReady log before) (IsReady (log ++ e ∷ []) before) (λ v h. ready_lasts before v log e was may h) r.inputs.items are

  pub in_turn_lasts : (before numbers : List ℕ) → Lasts maker (MayFollow b) (λ log. AreInTurn log before numbers)
  in_turn_lasts before [] log e was may are = tt
  in_turn_lasts before (n ∷ numbers) log e was may are = (
    record {
      submit = are.0.submit;
      is_submit = still_submit log e n are.0.submit are.0.is_submit;
      apart = are.0.apart;
      ready = all_ready_last before are.0.submit.rec log e was may are.0.ready;
    },
    in_turn_lasts (before ++ n ∷ []) numbers log e was may are.1,
  )

  -- ---- the right to tell an end

  pub may_end_stays : (w n : ℕ) → Stays maker (MayFollow b) (w + 1) (λ log. MayEnd log w n)
  may_end_stays w n log e was may apart h = record {
    submit = h.submit;
    is_submit = still_submit log e n h.submit h.is_submit;
    mine = subst (λ l. is_among l n ≡ true) (sym (held_same w log e apart)) h.mine;
    ready = all_ready_last [] h.submit.rec log e was may h.ready;
  }

  pub body_lasts : (n : ℕ) (end : End) → Lasts maker (MayFollow b) (λ log. IsOfBody b log n end)
  body_lasts n end log e was may h = record {
    submit = h.submit;
    is_submit = still_submit log e n h.submit h.is_submit;
    inputs = h.inputs;
    values = all_found_last h.submit.given h.submit.rec.inputs.items h.inputs log e was may h.values;
    alone = h.alone;
  }

  pub may_tell_stays : (w n : ℕ) (end : End) → Stays maker (MayFollow b) (w + 1) (λ log. MayTell b log w n end)
  may_tell_stays w n end log e was may apart h = (may_end_stays w n log e was may apart h.0, body_lasts n end log e was may h.1)

  -- ---- a worker's own entries

  taken_in_turn : (log : List Entry) (e : Entry) (before numbers : List ℕ) → Legal b log → MayFollow b log e → MayTake log before numbers → AreInTurn (log ++ e ∷ []) before numbers
  taken_in_turn log e before [] was may take = tt
  taken_in_turn log e before (n ∷ numbers) was may take = (
    record {
      submit = take.0.submit;
      is_submit = still_submit log e n take.0.submit take.0.is_submit;
      apart = take.0.apart;
      ready = all_ready_last before take.0.submit.rec log e was may take.0.ready;
    },
    taken_in_turn log e (before ++ n ∷ []) numbers was may take.1,
  )

  pub taken : (log : List Entry) (w : ℕ) (numbers : List ℕ) → Legal b log → MayFollow b log (entries.Take w numbers) → AreInTurn (log ++ entries.Take w numbers ∷ []) [] numbers
  taken log w numbers was may = taken_in_turn log (entries.Take w numbers) [] numbers was may may.follows

  module _ (log : List Entry) (w n : ℕ) (outs : List (List ℕ)) (was : Legal b log) (may : MayFollow b log (entries.Finish w n outs)) where
    abbrev longer : List Entry
    longer = log ++ entries.Finish w n outs ∷ []

    now_finished : (k : ℕ) → n ≡ k → IsFinished k longer
    now_finished k same = (outs, is_named log (entries.Finish w n outs) k (one_among k same))
      where
        one_among : (k : ℕ) → n ≡ k → is_among (n ∷ []) k ≡ true
        one_among k same = rw (eq-eqb n k same) refl

    ready_without : (before : List ℕ) (version : VersionName) → IsReady log (n ∷ before) version → IsReady longer before version
    ready_without before (names.Given place) is = tt
    ready_without before (names.Made task out) (inl finished) = inl (finished_lasts task log (entries.Finish w n outs) was may finished)
    ready_without before (names.Made task out) (inr among) = elim (or_either (n == task) (is_among before task) among) [
      | inl here ↦ inl (now_finished task (eqb-true n task here))
      | inr there ↦ inr there
    ]

    rest_in_turn : (before numbers : List ℕ) → AreInTurn log (n ∷ before) numbers → AreInTurn longer before numbers
    rest_in_turn before [] are = tt
    rest_in_turn before (k ∷ numbers) are = (
      record {
        submit = are.0.submit;
        is_submit = still_submit log (entries.Finish w n outs) k are.0.submit are.0.is_submit;
        apart = (or_neither (n == k) (is_among before k) are.0.apart).1;
        ready = All-weaker (IsReady log (n ∷ before)) (IsReady longer before) (ready_without before) are.0.submit.rec.inputs.items are.0.ready;
      },
      rest_in_turn (before ++ k ∷ []) numbers are.1,
    )

    pub rest : (numbers : List ℕ) → AreInTurn log [] (n ∷ numbers) → AreInTurn longer [] numbers
    rest numbers are = rest_in_turn [] numbers are.1

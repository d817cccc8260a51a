-- Each end in a legal history is its task's own.
use Rattle.std.proofs.Common.{◌≡◌, ◌≢◌, ℕ, ◌<◌, ◌==◌, Bool, true, false, List, [], ◌∷◌, ◌++◌, Contains, refl, ap, sym, ◌∙◌, subst, inl, inr, arith}
use Rattle.std.proofs.lemmas.Bool.{cases_Bool}
use Rattle.css_base.specs.declared.ending.Stop.{Stop}
use Rattle.css_record.specs.declared.version.VersionName.{VersionName}
use Rattle.css_record.specs.declared.version.VersionName.TheVariants as names
use Rattle.css_task.specs.Alone.{End, Outs, Halted}
use Rattle.css_yard.specs.Values.{Submit, Ends, IsValue, AreValues, IsFirstStop, Alone, Given, Made, NoMore, More}
use Rattle.css_yard.specs.Submits.{AreSubmitted}
use Rattle.css_yard.proofs.Generations.{none_submitted, one_more_submitted}
use Rattle.css_yard.proofs.Later.{ends_later}
use Rattle.css_yard.proofs.OneEnd.{one_end}
use Rattle.css_graph.specs.Tasks.{is_among}
use Rattle.css_seen.specs.Facts.{Lasts}
use Rattle.css_seen.proofs.Lasting.{of_legal}
use Rattle.css_history.specs.declared.entry.Entry.{Entry}
use Rattle.css_history.specs.declared.entry.Entry.TheVariants as entries
use Rattle.css_history.specs.Terms.{Terms}
use Rattle.css_history.specs.Histories.{maker, submitted, submits, Standing, Waiting, Held, Ended, named, comes, standing}
use Rattle.css_history.specs.Bodies.{IsFound, AreFound, IsOfBody}
use Rattle.css_history.specs.Legal.{MayFollow, Legal}
use Rattle.css_history.specs.Seats.{IsFirst}
use Rattle.css_history.proofs.Bools.{among_one}
use Rattle.css_history.proofs.Histories.{submits_more, submits_same, still_there, not_named, is_named}

module _ (b : Terms) where
  abbrev AreOfYard : List Entry → Type 0
  AreOfYard log = AreSubmitted b.code b.limits (submits log)

  abbrev AreOwn : List Entry → Type 0
  AreOwn log = (n : ℕ) (end : End) → standing n log ≡ Ended end → Ends b.code b.limits.task_units (submits log) n end

  same_submits : (log : List Entry) (e : Entry) → submitted e ≡ [] → AreOfYard log → AreOfYard (log ++ e ∷ [])
  same_submits log e none are = subst (AreSubmitted b.code b.limits) (sym (submits_same log e none)) are

  yard_step : Lasts maker (MayFollow b) AreOfYard
  yard_step log (entries.Submit rec given) was may are =
      subst (AreSubmitted b.code b.limits) (sym (submits_more log (entries.Submit rec given)))
      (one_more_submitted b.code b.limits (submits log) (record { rec = rec; given = given }) are may.own)
  yard_step log (entries.Take w numbers) was may are = same_submits log (entries.Take w numbers) refl are
  yard_step log (entries.Finish w n outs) was may are = same_submits log (entries.Finish w n outs) refl are
  yard_step log (entries.Stop w n stop line) was may are = same_submits log (entries.Stop w n stop line) refl are
  yard_step log (entries.Back w numbers) was may are = same_submits log (entries.Back w numbers) refl are
  yard_step log (entries.Starved w) was may are = same_submits log (entries.Starved w) refl are
  yard_step log entries.Close was may are = same_submits log entries.Close refl are

  pub are_submitted : (log : List Entry) → Legal b log → AreSubmitted b.code b.limits (submits log)
  are_submitted log legal = of_legal maker (MayFollow b) AreOfYard (none_submitted b.code b.limits) yard_step log legal

  -- what is found of a version is its value, where the ends are the tasks' own
  value_found : (log : List Entry) → AreOwn log → (given : List (List ℕ)) (version : VersionName) (bytes : List ℕ) → IsFound log given version bytes
      → IsValue b.code b.limits.task_units (submits log) given version bytes
  value_found log own given (names.Given place) bytes is = Given place is
  value_found log own given (names.Made task out) bytes (outs, ended, is) = Made task out outs (own task (Outs outs) ended) is

  values_found : (log : List Entry) → AreOwn log → (given : List (List ℕ)) (versions : List VersionName) (values : List (List ℕ)) → AreFound log given versions values
      → AreValues b.code b.limits.task_units (submits log) given versions values
  values_found log own given [] [] are = NoMore
  values_found log own given [] (bytes ∷ values) are = absurd are
  values_found log own given (version ∷ versions) [] are = absurd are
  values_found log own given (version ∷ versions) (bytes ∷ values) are = More (value_found log own given version bytes are.0) (values_found log own given versions values are.1)

  body_ends : (log : List Entry) (n : ℕ) (end : End) → AreOwn log → IsOfBody b log n end → Ends b.code b.limits.task_units (submits log) n end
  body_ends log n end own is =
      Alone is.submit is.inputs is.is_submit.is_there is.is_submit.number (values_found log own is.submit.given is.submit.rec.inputs.items is.inputs is.values) is.alone

  same_end : (a c : End) → Ended a ≡ Ended c → a ≡ c
  same_end a c e = cc

  -- of the end that an entry tells
  told : (log : List Entry) (e : Entry) → MayFollow b log e → AreOwn log → (n : ℕ) (end : End) → is_among (named e) n ≡ true → comes e ≡ Ended end → Ends b.code b.limits.task_units (submits log) n end
  told log (entries.Submit rec given) may own n end names is = absurd (cc)
  told log (entries.Take w numbers) may own n end names is = absurd (cc)
  told log (entries.Finish w m outs) may own n end names is =
      subst (λ (x : End). Ends b.code b.limits.task_units (submits log) n x) (same_end (Outs outs) end is)
      (subst (λ (k : ℕ). Ends b.code b.limits.task_units (submits log) k (Outs outs)) (among_one m n names) (body_ends log m (Outs outs) own may.own))
  told log (entries.Stop w m stop line) may own n end names is =
      subst (λ (x : End). Ends b.code b.limits.task_units (submits log) n x) (same_end (Halted stop line) end is)
      (subst (λ (k : ℕ). Ends b.code b.limits.task_units (submits log) k (Halted stop line)) (among_one m n names) (body_ends log m (Halted stop line) own may.own))
  told log (entries.Back w numbers) may own n end names is = absurd (cc)
  told log (entries.Starved w) may own n end names is = absurd (cc)
  told log entries.Close may own n end names is = absurd (cc)

  own_step : Lasts maker (MayFollow b) AreOwn
  own_step log e was may own n end is =
      let more : Ends b.code b.limits.task_units (submits log) n end → Ends b.code b.limits.task_units (submits (log ++ e ∷ [])) n end
      = ends_later b.code b.limits.task_units (submits log) (submits (log ++ e ∷ [])) (still_there log e) in
      elim (cases_Bool (is_among (named e) n)) [
        | inl names ↦ more (told log e may own n end names (sym (is_named log e n names) ∙ is))
        | inr none ↦ more (own n end (sym (not_named log e n none) ∙ is))
      ]

  -- In each legal history the end of a task is its own.
  pub ends_are_own : (log : List Entry) → Legal b log → (n : ℕ) (end : End) → standing n log ≡ Ended end → Ends b.code b.limits.task_units (submits log) n end
  ends_are_own log legal = of_legal maker (MayFollow b) AreOwn (λ n end e. absurd (cc)) own_step log legal

  pub values_are_own : (log : List Entry) → Legal b log → (given : List (List ℕ)) (version : VersionName) (bytes : List ℕ) → IsFound log given version bytes
      → IsValue b.code b.limits.task_units (submits log) given version bytes
  values_are_own log legal = value_found log (ends_are_own log legal)

  -- ---- the first stop

  not_both : (outs : List (List ℕ)) (stop : Stop) (line : ℕ) → Outs outs ≢ Halted stop line
  not_both outs stop line e = cc

  lower_ends_well : (log : List Entry) → Legal b log → (n : ℕ) (stop : Stop) (line : ℕ) → IsFirst log n stop line → (lower : ℕ) (other : Stop) (in_line : ℕ) → lower < n
      → ¬ Ends b.code b.limits.task_units (submits log) lower (Halted other in_line)
  lower_ends_well log legal n stop line first lower other in_line below (Alone s inputs has is values alone) =
      let it : Ends b.code b.limits.task_units (submits log) lower (Halted other in_line) = Alone s inputs has is values alone in
      let finished = first.lower s has (omega (arith, is, below)) in
      let well = subst (λ (k : ℕ). Ends b.code b.limits.task_units (submits log) k (Outs finished.0)) is (ends_are_own log legal s.rec.number (Outs finished.0) finished.1) in
      not_both finished.0 other in_line (one_end b.code b.limits b.limits.task_units (submits log) (are_submitted log legal) well it)

  pub first_stops : (log : List Entry) → Legal b log → (n : ℕ) (stop : Stop) (line : ℕ) → IsFirst log n stop line → IsFirstStop b.code b.limits.task_units (submits log) n stop line
  first_stops log legal n stop line first = record {
    stops = ends_are_own log legal n (Halted stop line) first.stops;
    first = lower_ends_well log legal n stop line first;
  }

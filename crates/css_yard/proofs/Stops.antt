-- The first stop of the kept ends is that of the definitions.
use Rattle.std.proofs.Common.{◌≡◌, ◌<◌, ℕ, zero, suc, List, [], ◌∷◌, Option, Some, None, ◌⊎◌, inl, inr, refl, sym, ◌∙◌, ap, subst, arith}
use Rattle.std.specs.List.{slice_get}
use Rattle.css_base.specs.declared.limits.Limits.{Limits}
use Rattle.css_base.specs.declared.ending.Stop.{Stop}
use Rattle.css_vm.specs.Code.{Code}
use Rattle.css_task.specs.Alone.{End, Outs, Halted}
use Rattle.css_task.specs.declared.shared.SharedEnd.{SharedEnd}
use Rattle.css_task.specs.declared.shared.SharedEnd.TheVariants as ends
use Rattle.css_yard.specs.declared.done.Done.{Done}
use Rattle.css_yard.specs.Values.{Submit, Ends, IsFirstStop, Alone}
use Rattle.css_yard.specs.Yards.{Stopping, NoneStops}
use Rattle.css_yard.specs.Kept.{submit_of, submits_of, stop_or, first_stop, HasStopped, AnyStopped, AreDone}
use Rattle.css_yard.proofs.Lists.{place_of, at_mapped}
use Rattle.css_yard.proofs.OneEnd.{one_end}
use Rattle.css_yard.proofs.Kept.{number_at}

-- none of the tasks before this place has stopped
abbrev NoneBefore : List Done → ℕ → Type 0
NoneBefore tasks k = (j : ℕ) (e : Done) → j < k → slice_get tasks j ≡ Some e → HasStopped e → ⊥

-- the first task that has stopped
record StopsFirst (tasks : List Done) (h : Stopping) : Type 0 where
  place : ℕ
  task : Done
  is_there : slice_get tasks place ≡ Some task
  number : task.number ≡ h.task
  stopped : task.end ≡ Some (ends.Stopped h.stop h.line)
  none : NoneBefore tasks place

one_first : (d : Done) (others : Option Stopping) (h : Stopping) (end : Option SharedEnd) → d.end ≡ end → stop_or d.number end others ≡ Some h
    → ((d.number ≡ h.task) × (d.end ≡ Some (ends.Stopped h.stop h.line))) ⊎ ((HasStopped d → ⊥) × (others ≡ Some h))
one_first d others h (Some (ends.Stopped stop line)) ended is = inl (cc, cc)
one_first d others h (Some (ends.Outs outs)) ended is = inr (λ s. cc, is)
one_first d others h None ended is = inr (λ s. cc, is)

one_none : (d : Done) (others : Option Stopping) (end : Option SharedEnd) → d.end ≡ end → stop_or d.number end others ≡ None → (HasStopped d → ⊥) × (others ≡ None)
one_none d others (Some (ends.Stopped stop line)) ended is = cc
one_none d others (Some (ends.Outs outs)) ended is = (λ s. cc, is)
one_none d others None ended is = (λ s. cc, is)

none_before_more : (d : Done) (tasks : List Done) (k : ℕ) → (HasStopped d → ⊥) → NoneBefore tasks k → NoneBefore (d ∷ tasks) (suc k)
none_before_more d tasks k not none zero e below is stopped = let same : e ≡ d = cc in not (subst HasStopped same stopped)
none_before_more d tasks k not none (suc j) e below is stopped = none j e (omega (arith, below)) is stopped

stops_first : (tasks : List Done) (h : Stopping) → first_stop tasks ≡ Some h → StopsFirst tasks h
stops_first [] h is = cc
stops_first (d ∷ tasks) h is = elim (one_first d (first_stop tasks) h d.end refl is) [
  | inl here ↦ record {
    place = 0;
    task = d;
    is_there = refl;
    number = here.0;
    stopped = here.1;
    none = λ j e below at stopped. absurd (omega (arith, below));
  }
  | inr later ↦
      let first = stops_first tasks h later.1 in
      record {
        place = suc first.place;
        task = first.task;
        is_there = first.is_there;
        number = first.number;
        stopped = first.stopped;
        none = none_before_more d tasks first.place later.0 first.none;
      }
]

-- where there is no first stop, no task has stopped
pub none_stopped : (tasks : List Done) → first_stop tasks ≡ None → (k : ℕ) (d : Done) → slice_get tasks k ≡ Some d → HasStopped d → ⊥
none_stopped [] none k d is stopped = cc
none_stopped (e ∷ tasks) none zero d is stopped = let same : d ≡ e = cc in (one_none e (first_stop tasks) e.end refl none).0 (subst HasStopped same stopped)
none_stopped (e ∷ tasks) none (suc k) d is stopped = none_stopped tasks (one_none e (first_stop tasks) e.end refl none).1 k d is stopped

pub stopped_has_first : (tasks : List Done) → first_stop tasks ≡ None → AnyStopped tasks → ⊥
stopped_has_first tasks none (k, d, is, stopped) = none_stopped tasks none k d is stopped

module _ (code : Code) (limits : Limits) (tasks : List Done) (done : AreDone code limits tasks) where
  abbrev units : ℕ
  units = limits.task_units

  -- the place of a task that comes to an end
  place_of_end : (number : ℕ) (end : End) → Ends code units (submits_of tasks) number end → (k : ℕ) × (d : Done) × (slice_get tasks k ≡ Some d) × (d.number ≡ number)
  place_of_end number end (Alone s inputs has is values alone) =
      let place = place_of (submits_of tasks) s has in
      let there = at_mapped submit_of tasks place.0 s place.1 in
      (place.0, there.0, there.1, done.numbers place.0 there.0 there.1 ∙ ap (λ (x : Submit). x.rec.number) there.2 ∙ is)

  -- where neither a task nor one before it has stopped, it doesn't stop
  halts_by : (k : ℕ) (d : Done) (stop : Stop) (line : ℕ) → slice_get tasks k ≡ Some d → NoneBefore tasks k → (HasStopped d → ⊥) → (end : Option SharedEnd) → d.end ≡ end
      → Ends code units (submits_of tasks) d.number (Halted stop line) → ⊥
  halts_by k d stop line is none not (Some (ends.Outs outs)) ended halted =
      let one : Outs outs.items ≡ Halted stop line = one_end code limits units (submits_of tasks) done.submitted (done.ends k d (ends.Outs outs) is ended) halted in cc
  halts_by k d stop line is none not (Some (ends.Stopped stop' line')) ended halted = not (stop', line', ended)
  halts_by k d stop line is none not None ended halted = let held = done.held k d is ended in none held.0 held.1 held.2 held.3 held.4

  pub first_stop_is : (h : Stopping) → first_stop tasks ≡ Some h → IsFirstStop code units (submits_of tasks) h.task h.stop h.line
  first_stop_is h is =
      let first = stops_first tasks h is in
      record {
        stops = subst (λ n. Ends code units (submits_of tasks) n (Halted h.stop h.line)) first.number (done.ends first.place first.task (ends.Stopped h.stop h.line) first.is_there first.stopped);
        first = λ lower other line below halted.
            let (k, d, at, number) = place_of_end lower (Halted other line) halted in
            let before : k < first.place = omega (arith, number_at code limits tasks done k d at, number_at code limits tasks done first.place first.task first.is_there, first.number, number, below) in
            halts_by k d other line at (λ j e less. first.none j e (omega (arith, less, before))) (first.none k d before at) d.end refl
            (subst (λ n. Ends code units (submits_of tasks) n (Halted other line)) (sym number) halted);
      }

  pub none_stops : first_stop tasks ≡ None → NoneStops code units (submits_of tasks)
  none_stops none number stop line halted =
      let (k, d, at, is) = place_of_end number (Halted stop line) halted in
      halts_by k d stop line at (λ j e less. none_stopped tasks none j e) (none_stopped tasks none k d at) d.end refl
      (subst (λ n. Ends code units (submits_of tasks) n (Halted stop line)) (sym is) halted)

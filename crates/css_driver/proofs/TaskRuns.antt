-- The one answer of a program's run with tasks, and how the run of its code gives it.
use Rattle.std.proofs.Common.{◌≡◌, ℕ, ℤ, ◌⊎◌, inl, inr, List, [], Some, None, refl, sym, ap, ◌∙◌, subst}
use Rattle.css_base.specs.declared.limits.Limits.{Limits}
use Rattle.css_semantics.specs.Dialogue.{World, Outcome, Goes, Stops, Stopped, Tired}
use Rattle.css_semantics.specs.Memory.{Memory}
use Rattle.css_semantics.specs.Verdict.{Verdict, verdict, judged_in}
use Rattle.css_vm.specs.Code.{Routine, Shape, Code}
use Rattle.css_small.specs.Tree.{Program}
use Rattle.css_small.specs.Numbers.{HasNumbers}
use Rattle.css_small_code.specs.Meaning.{source}
use Rattle.css_small_code.specs.Correct.{Codes}
use Rattle.css_small_code.specs.Tasks.{TasksTakePointers}
use Rattle.css_io.specs.Changes.{Change, Got, GotPrefix}
use Rattle.css_main_side.specs.Plain.{IsPlainShape, HasPlainTasks}
use Rattle.css_main_side.specs.Playing.{begins, ComesToVerdict}
use Rattle.css_main_side.proofs.Sinks.{AppendsPrefix-whole}
use Rattle.css_report.specs.Endings.{ending_line}
use Rattle.css_driver.specs.Answer.{Answer, HasVerdict, IsTaskAnswer, ending_status, no_memory}
use Rattle.css_driver.specs.Ends as ways
use Rattle.css_driver.proofs.Endings.{ends_answer, ends_no_memory}
use Rattle.css_driver.proofs.Runs.{IsRunStatus, ending_statuses, answer_of_parts, answer_from}

-- ---- the verdict

-- a program has one verdict, whatever the fuel
abbrev pub OneVerdict : Type 0
OneVerdict = (start : Memory) (w : World) (p : Program) (fuel other : ℕ) (v v' : Verdict) → verdict start (source w fuel p) ≡ Some v → verdict start (source w other p) ≡ Some v' → v ≡ v'

-- what a verdict answers
abbrev pub verdict_answer : Verdict → Answer
verdict_answer v = answer_from v.ending v.output

pub verdict_answer-is : (limits : Limits) (p : Program) (v : Verdict) → HasVerdict limits p v → IsTaskAnswer limits p (verdict_answer v)
verdict_answer-is limits p v has = record { v = v; has = has; out_is = refl; report_is = refl; status_is = refl }

-- a program's run has one answer
pub one_task_answer : OneVerdict → (limits : Limits) (p : Program) (a b : Answer) → IsTaskAnswer limits p a → IsTaskAnswer limits p b → a ≡ b
one_task_answer only limits p a b one other =
    let same = only (begins limits).memory (judged_in limits (begins limits)) p one.has.0 other.has.0 one.v other.v one.has.1 other.has.1 in
    answer_of_parts a b (one.out_is ∙ ap (λ (v : Verdict). v.output) same ∙ sym other.out_is)
    (one.report_is ∙ ap (λ (v : Verdict). ending_line v.ending) same ∙ sym other.report_is)
    (one.status_is ∙ ap (λ (v : Verdict). ending_status v.ending) same ∙ sym other.status_is)

-- a program that has a verdict has an answer, of the statuses of endings
pub task_answer : (limits : Limits) (p : Program) (v : Verdict) → HasVerdict limits p v → (a : Answer) × IsTaskAnswer limits p a
task_answer limits p v has = (verdict_answer v, verdict_answer-is limits p v has)

pub task_answer_status : (limits : Limits) (p : Program) (a : Answer) → IsTaskAnswer limits p a → IsRunStatus a.status
task_answer_status limits p a one = subst IsRunStatus (sym one.status_is) (ending_statuses one.v.ending)

-- ---- the run of a program's code

comes_from : (limits : Limits) (code : Code) (p : Program) → Codes code p → (fuel : ℕ) (v : Verdict) (o : Outcome ℤ) → source (judged_in limits (begins limits)) fuel p ≡ o → verdict (begins limits).memory o ≡ Some v → ComesToVerdict limits (begins limits) code v
comes_from limits code p codes fuel v (Goes value tape) same is =
    let n = (codes.main (judged_in limits (begins limits))).finishes fuel value tape same in
    record { steps = n.0; outcome = Goes value tape; comes = n.1; is = is }
comes_from limits code p codes fuel v (Stops (Stopped stop line) tape) same is =
    let n = (codes.main (judged_in limits (begins limits))).stops fuel stop line tape same in
    record { steps = n.0; outcome = Stops (Stopped stop line) tape; comes = n.1; is = is }
comes_from limits code p codes fuel v (Stops Tired tape) same is = absurd (cc)

-- a program's code comes to the program's verdict
pub comes_to_verdict : (limits : Limits) (code : Code) (p : Program) → Codes code p → (v : Verdict) → HasVerdict limits p v → ComesToVerdict limits (begins limits) code v
comes_to_verdict limits code p codes v (fuel, is) = comes_from limits code p codes fuel v (source (judged_in limits (begins limits)) fuel p) refl is

-- tasks that take pointers are plain
pub plain_tasks : (code : Code) → TasksTakePointers code → HasPlainTasks code
plain_tasks code pointers = λ k f s found task. let takes = pointers k f s found task in record { parameters = takes.parameters; arguments = takes.arguments }

module _ (only : OneVerdict) (limits : Limits) (p : Program) (v : Verdict) (has : HasVerdict limits p v) where
  -- a prefix of the verdict's output is one of the answer's
  pub task_prefix : (out : Change) → GotPrefix out v.output → (a : Answer) → IsTaskAnswer limits p a → GotPrefix out a.out
  task_prefix out got a one =
      subst (λ b. GotPrefix out b) (ap (λ (x : Answer). x.out) (one_task_answer only limits p (verdict_answer v) a (verdict_answer-is limits p v has) one)) got

  -- the verdict's ending is reported, or there is no memory for its line
  pub task_ended : (out report : Change) (status : ℕ) → Got out v.output
      → ways.Finishes report (ending_line v.ending) (ending_status v.ending) status ⊎ ways.Finishes report no_memory 8 status
      → ways.Ends (IsTaskAnswer limits p) out report status
  task_ended out report status got (inl line) =
      ends_answer (IsTaskAnswer limits p) out report status (verdict_answer v) (verdict_answer-is limits p v has) got line
  task_ended out report status got (inr starved) =
      ends_no_memory (IsTaskAnswer limits p) out report status
      (task_prefix out (AppendsPrefix-whole out.before out.after v.output got)) starved

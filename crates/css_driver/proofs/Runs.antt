-- The one answer of a program's run, and how the run of its code gives it.
use Rattle.std.proofs.Common.{◌≡◌, ℕ, zero, suc, ◌+◌, ℤ, pos, negsuc, ◌≤◌, ◌⊎◌, inl, inr, List, Some, refl, sym, ap, ◌∙◌, subst, arith}
use Rattle.css_base.specs.declared.limits.Limits.{Limits}
use Rattle.css_base.specs.declared.ending.Ending.{Ending}
use Rattle.css_base.specs.declared.ending.Ending.TheVariants as endings
use Rattle.css_base.specs.declared.ending.Stop.TheVariants as stops
use Rattle.css_main_side.specs.Playing.{begins}
use Rattle.css_semantics.specs.Dialogue.{World, Outcome, Goes, Stops, Stopped, Tired, tape_of, output}
use Rattle.css_semantics.specs.Flat.{flat}
use Rattle.css_vm.specs.Code.{Code}
use Rattle.css_vm.specs.Machine.{target}
use Rattle.css_small.specs.Tree.{Program}
use Rattle.css_small.specs.Numbers.{HasNumbers}
use Rattle.css_small_code.specs.Meaning.{source}
use Rattle.css_small_code.specs.Correct.{Codes}
use Rattle.css_report.specs.Endings.{ending_line}
use Rattle.css_driver.specs.Answer.{Answer, IsRunAnswer, ending_of, ending_status, no_memory}
use Rattle.css_io.specs.Changes.{Change, Got, GotPrefix}
use Rattle.css_driver.specs.Ends as ways
use Rattle.css_driver.specs.Running.{halted, ComesTo}
use Rattle.css_driver.proofs.Endings.{ends_answer, ends_no_memory}
use Rattle.css_driver.proofs.Fuel.{MoreFuel, EnoughFuel, one_outcome, source_ends}
use Rattle.css_main_side.proofs.Sinks.{AppendsPrefix-whole}

-- the answer of a run with this ending and output
abbrev pub answer_from : Ending → List ℕ → Answer
answer_from ending out = record { out = out; report = ending_line ending; status = ending_status ending }

pub answer_from-is : (limits : Limits) (p : Program) (fuel : ℕ) (o : Outcome ℤ) (ending : Ending) → source (flat (begins limits) limits.main_units) fuel p ≡ o → ending_of o ≡ Some ending
    → IsRunAnswer limits p (answer_from ending (output (tape_of o)))
answer_from-is limits p fuel o ending comes is =
    record {
      ending = ending;
      runs = record { fuel = fuel; ending_is = ap ending_of comes ∙ is; out_is = ap (λ x. output (tape_of x)) (sym comes) };
      report_is = refl;
      status_is = refl;
    }

pub answer_of_parts : (a b : Answer) → a.out ≡ b.out → a.report ≡ b.report → a.status ≡ b.status → a ≡ b
answer_of_parts a b outs reports statuses =
    let made : List ℕ → List ℕ → ℕ → Answer = λ o r s. record { out = o; report = r; status = s } in
    ap (λ o. made o a.report a.status) outs ∙ ap (λ r. made b.out r a.status) reports ∙ ap (λ s. made b.out b.report s) statuses

-- a program's run has one answer
pub one_run_answer : MoreFuel → (limits : Limits) (p : Program) (a b : Answer) → IsRunAnswer limits p a → IsRunAnswer limits p b → a ≡ b
one_run_answer more_fuel limits p a b one other =
    let same = one_outcome more_fuel (flat (begins limits) limits.main_units) p one.runs.fuel other.runs.fuel one.ending other.ending one.runs.ending_is other.runs.ending_is in
    let some : Some one.ending ≡ Some other.ending = sym one.runs.ending_is ∙ ap ending_of same ∙ other.runs.ending_is in
    let ends : one.ending ≡ other.ending = cc in
    answer_of_parts a b (one.runs.out_is ∙ ap (λ o. output (tape_of o)) same ∙ sym other.runs.out_is)
    (one.report_is ∙ ap ending_line ends ∙ sym other.report_is) (one.status_is ∙ ap ending_status ends ∙ sym other.status_is)

-- the statuses of endings
abbrev pub IsRunStatus : ℕ → Type 0
IsRunStatus status = (status ≤ 1) ⊎ ((4 ≤ status) × (status ≤ 5))

pub ending_statuses : (ending : Ending) → IsRunStatus (ending_status ending)
ending_statuses (endings.Result (pos zero)) = inl (omega arith)
ending_statuses (endings.Result (pos (suc n))) = inl (omega arith)
ending_statuses (endings.Result (negsuc n)) = inl (omega arith)
ending_statuses (endings.Stopped (stops.Fault kind) line who) = inr (omega arith, omega arith)
ending_statuses (endings.Stopped (stops.Rule rule) line who) = inr (omega arith, omega arith)

-- the status of a run's answer is 0 or 1, or 4 or 5
pub run_answer_status : (limits : Limits) (p : Program) (a : Answer) → IsRunAnswer limits p a → IsRunStatus a.status
run_answer_status limits p a one = subst IsRunStatus (sym one.status_is) (ending_statuses one.ending)

-- ---- the run of a program's code

-- code comes to the outcome that its program has
comes_to : (w : World) (fuel : ℕ) (code : Code) (p : Program) → Codes code p → (o : Outcome ℤ) (ending : Ending) → source w fuel p ≡ o → ending_of o ≡ Some ending
    → (n : ℕ) × (target w code n ≡ halted o)
comes_to w fuel code p codes (Goes v tape) ending same is = (codes.main w).finishes fuel v tape same
comes_to w fuel code p codes (Stops (Stopped stop line) tape) ending same is = (codes.main w).stops fuel stop line tape same
comes_to w fuel code p codes (Stops Tired tape) ending same is = absurd (cc)

-- what the run of a program's code comes to, with the ending and the output of the program's answer
pub record Known (limits : Limits) (code : Code) (p : Program) : Type 0 where
  pub o : Outcome ℤ
  pub ending : Ending
  pub comes : ComesTo (begins limits) limits.main_units code o
  pub ends : ending_of o ≡ Some ending
  pub answer_is : IsRunAnswer limits p (answer_from ending (output (tape_of o)))

known_from : (limits : Limits) (code : Code) (p : Program) → Codes code p → (fuel : ℕ) (ending : Ending) → ending_of (source (flat (begins limits) limits.main_units) fuel p) ≡ Some ending → Known limits code p
known_from limits code p codes fuel ending is =
    let w = flat (begins limits) limits.main_units in
    record {
      o = source w fuel p;
      ending = ending;
      comes = comes_to w fuel code p codes (source w fuel p) ending refl is;
      ends = is;
      answer_is = answer_from-is limits p fuel (source w fuel p) ending refl is;
    }

-- a program's code comes to what the program does, which has an ending
pub known : EnoughFuel → (limits : Limits) (code : Code) (p : Program) → HasNumbers p → Codes code p → Known limits code p
known enough limits code p numbers codes =
    let ends = source_ends enough (begins limits) limits.main_units p numbers in
    known_from limits code p codes (limits.main_units + 1) ends.0 ends.1

-- a program's run has an answer
pub run_answer : EnoughFuel → (limits : Limits) (p : Program) → HasNumbers p → (a : Answer) × IsRunAnswer limits p a
run_answer enough limits p numbers =
    let ends = source_ends enough (begins limits) limits.main_units p numbers in
    (_, answer_from-is limits p (limits.main_units + 1) (source (flat (begins limits) limits.main_units) (limits.main_units + 1) p) ends.0 refl ends.1)

module _ (more_fuel : MoreFuel) (limits : Limits) (code : Code) (p : Program) (k : Known limits code p) where
  -- a prefix of the run's output is one of its answer's
  pub run_prefix : (out : Change) → GotPrefix out (output (tape_of k.o)) → (a : Answer) → IsRunAnswer limits p a → GotPrefix out a.out
  run_prefix out got a one =
      subst (λ b. GotPrefix out b) (ap (λ (x : Answer). x.out) (one_run_answer more_fuel limits p (answer_from k.ending (output (tape_of k.o))) a k.answer_is one)) got

  -- the run's ending is reported, or there is no memory for its line
  pub run_ended : (out report : Change) (status : ℕ) → Got out (output (tape_of k.o))
      → ways.Finishes report (ending_line k.ending) (ending_status k.ending) status ⊎ ways.Finishes report no_memory 8 status
      → ways.Ends (IsRunAnswer limits p) out report status
  run_ended out report status got (inl line) =
      let a = answer_from k.ending (output (tape_of k.o)) in
      ends_answer (IsRunAnswer limits p) out report status a k.answer_is got line
  run_ended out report status got (inr starved) =
      ends_no_memory (IsRunAnswer limits p) out report status
      (run_prefix out (AppendsPrefix-whole out.before out.after (output (tape_of k.o)) got)) starved

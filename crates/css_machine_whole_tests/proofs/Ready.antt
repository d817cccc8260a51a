-- A machine that was answered may be run.
use Rattle.std.proofs.Common.{◌≡◌, ℕ, true, refl}
use Rattle.css_isa.specs.Code.{Code}
use Rattle.css_isa.specs.Steps.{State}
use Rattle.css_isa.specs.Machine.{answered}
use Rattle.css_isa.specs.Soundness.{Fits}
use Rattle.css_machine.specs.declared.event.MarkKind.{MarkKind}
use Rattle.css_machine.specs.declared.event.MarkKind.TheVariants as marks
use Rattle.css_machine.specs.declared.event.Event.{Event}
use Rattle.css_machine.specs.declared.event.Event.TheVariants as events
use Rattle.css_machine.specs.declared.machine.Due.{Due}
use Rattle.css_machine.specs.declared.machine.Due.TheVariants as due
use Rattle.css_machine.specs.Due.{Machine, due_at, due_after, TakesAnswer}
use Rattle.css_machine.specs.Events.{IsOwedAt, GoesOnBehind, Leaves}
use Rattle.css_machine.proofs.Runs.{answered_fits, falls_fits, answered_stacked}
use Rattle.css_machine_whole_tests.specs.Codes.{goes_on, IsReady}

-- what comes of an answer
pub record Answered (before : Due) (old : State) (value : ℕ) (new : Machine) : Type 0 where
  pub keeps : before ≡ due.Value → new.state ≡ answered value old
  pub passes : before ≡ due.Signal → new.state ≡ old
  pub due : new.due ≡ due.Run

module _ (code : Code) (first : State) (units : ℕ) (old : State) (units' place : ℕ) (fits : Fits code first) where
  kept : (value : ℕ) (m : Machine) → GoesOnBehind code first units old units' place → Answered due.Value old value m → IsReady code place m
  kept value m goes is = record {
    due = is.due;
    fits = rw (is.keeps refl) (answered_fits code first old units units' value goes.falls fits);
    stacked = rw (is.keeps refl) (answered_stacked code place value old goes.stacked);
  }

  passed : (value : ℕ) (m : Machine) → GoesOnBehind code first units old units' place → Answered due.Signal old value m → IsReady code place m
  passed value m goes is = record {
    due = is.due;
    fits = rw (is.passes refl) (falls_fits code first old units units' goes.falls fits);
    stacked = rw (is.passes refl) goes.stacked;
  }

  marked : (kind : MarkKind) (value : ℕ) (m : Machine) → GoesOnBehind code first units old units' place → Answered (due_at kind) old value m → IsReady code place m
  marked marks.Start value m goes is = passed value m goes is
  marked marks.Finish value m goes is = passed value m goes is
  marked marks.Barrier value m goes is = passed value m goes is
  marked (marks.Wait address) value m goes is = passed value m goes is
  marked marks.Started value m goes is = kept value m goes is

  pub ready : (e : Event) (value : ℕ) (m : Machine) → goes_on e ≡ true → Leaves code first units e old units' place → Answered (due_after e) old value m → IsReady code place m
  ready (events.Out bytes line) value m on leaves is = kept value m leaves.1 is
  ready (events.In line) value m on leaves is = kept value m leaves.1 is
  ready (events.Malloc size line) value m on leaves is = kept value m leaves.1 is
  ready (events.Submit s) value m on leaves is = kept value m leaves.1 is
  ready (events.Mark kind line) value m on leaves is = marked kind value m leaves.1 is
  ready (events.Ended cell line) value m on leaves is = absurd cc
  ready (events.Stopped stop mode line) value m on leaves is = absurd cc

-- it takes an answer
takes_mark : (kind : MarkKind) (s : State) → IsOwedAt kind s → TakesAnswer (due_at kind) s
takes_mark marks.Start s owed = tt
takes_mark marks.Finish s owed = tt
takes_mark marks.Barrier s owed = tt
takes_mark (marks.Wait address) s owed = tt
takes_mark marks.Started s owed = owed

pub takes : (code : Code) (first : State) (units : ℕ) (e : Event) (s : State) (units' place : ℕ) → goes_on e ≡ true → Leaves code first units e s units' place → TakesAnswer (due_after e) s
takes code first units (events.Out bytes line) s units' place on leaves = leaves.0
takes code first units (events.In line) s units' place on leaves = leaves.0
takes code first units (events.Malloc size line) s units' place on leaves = leaves.0
takes code first units (events.Submit s') s units' place on leaves = leaves.0
takes code first units (events.Mark kind line) s units' place on leaves = takes_mark kind s leaves.0
takes code first units (events.Ended cell line) s units' place on leaves = absurd cc
takes code first units (events.Stopped stop mode line) s units' place on leaves = absurd cc

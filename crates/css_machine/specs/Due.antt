-- A machine as contracts see it, and what it takes after an event.
use Rattle.css_isa.specs.Steps.{State}
use Rattle.css_isa.specs.Machine.{IsOwed}
use Rattle.css_machine.specs.declared.event.MarkKind.{MarkKind}
use Rattle.css_machine.specs.declared.event.MarkKind.TheVariants as marks
use Rattle.css_machine.specs.declared.event.Event.{Event}
use Rattle.css_machine.specs.declared.event.Event.TheVariants as events
use Rattle.css_machine.specs.declared.machine.Due.{Due}
use Rattle.css_machine.specs.declared.machine.Due.TheVariants as due

-- its state, and what it takes next
pub record Machine : Type 0 where
  pub state : State
  pub due : Due

-- a mark takes an answer, of which a machine keeps one alone: whether tasks are made
abbrev pub due_at : MarkKind → Due
due_at marks.Start = due.Signal
due_at marks.Finish = due.Signal
due_at marks.Barrier = due.Signal
due_at (marks.Wait address) = due.Signal
due_at marks.Started = due.Value

-- what it takes after an event: after its end, or a stop, nothing
abbrev pub due_after : Event → Due
due_after (events.Out bytes line) = due.Value
due_after (events.In line) = due.Value
due_after (events.Malloc size line) = due.Value
due_after (events.Submit s) = due.Value
due_after (events.Mark kind line) = due_at kind
due_after (events.Ended value line) = due.Nothing
due_after (events.Stopped stop mode line) = due.Nothing

-- it takes an answer, and has a cell for one that it keeps
abbrev pub TakesAnswer : Due → State → Type 0
TakesAnswer due.Run s = ⊥
TakesAnswer due.Value s = IsOwed s
TakesAnswer due.Signal s = Unit {0}
TakesAnswer due.Nothing s = ⊥

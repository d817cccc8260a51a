use Rattle.std.proofs.Common.{[], ap, ◌∙◌}
use Rattle.css_vm.specs.Code.{code_of}
use Rattle.css_vm.specs.Due.{due_at}
use Rattle.css_vm.specs.Machine.{Begin}
use Rattle.css_vm.specs.Soundness.{Fits}
use Rattle.css_vm.proofs.Runs.{answered_fits}
use Rattle.css_vm.proofs.TakenAnswers.{takes_value, takes_signal}
use Rattle.css_vm.proofs.Checked.{left_fits, answered_stacked}
use Rattle.css_machine_tests.proofs.machine.tasks.submitted.Goals as goal

pub answer-requires : goal.answer-requires
answer-requires g c = takes_signal c.run_to_event.new.self (rw c.in-Mark.is at c.in_ok-kind.ensures.due ∙ ap due_at c.in-Start.is)

pub run_to_event-requires-2-clause-fits : goal.run_to_event-requires-2-clause-fits
run_to_event-requires-2-clause-fits g c =
    let leaves = rw (c.in-Mark.is, c.in_ok-machine.ensures.state) at c.in_ok-kind.ensures.leaves in
    rw (c.answer.ensures.signal (rw c.in-Mark.is at c.in_ok-kind.ensures.due ∙ ap due_at c.in-Start.is))
    (left_fits (code_of c.in_ok-code.code) (Begin 0 [] 1) c.run_to_event.new.self.state 1000 c.run_to_event.new.units leaves.1 c.in_ok-code.ensures)

pub run_to_event-requires-3-clause-fits : goal.run_to_event-requires-3-clause-fits
run_to_event-requires-3-clause-fits g c =
    let code = code_of c.in_ok-code.code in
    let first = rw (c.in-Mark.is, c.in_ok-machine.ensures.state) at c.in_ok-kind.ensures.leaves in
    let second = rw c.in-Mark-2.is at c.in_ok-kind-2.ensures.leaves in
    let started : Fits code c.answer.new.self.state =
    rw (c.answer.ensures.signal (rw c.in-Mark.is at c.in_ok-kind.ensures.due ∙ ap due_at c.in-Start.is))
    (left_fits code (Begin 0 [] 1) c.run_to_event.new.self.state 1000 c.run_to_event.new.units first.1 c.in_ok-code.ensures) in
    rw (c.answer-2.ensures.value (rw c.in-Mark-2.is at c.in_ok-kind-2.ensures.due ∙ ap due_at c.in-Started.is))
    (answered_fits code c.answer.new.self.state c.run_to_event-2.new.self.state c.run_to_event.new.units c.run_to_event-2.new.units 1 second.1 started)

pub run_to_event-requires-4-clause-fits : goal.run_to_event-requires-4-clause-fits
run_to_event-requires-4-clause-fits g c =
    let code = code_of c.in_ok-code.code in
    let first = rw (c.in-Mark.is, c.in_ok-machine.ensures.state) at c.in_ok-kind.ensures.leaves in
    let second = rw c.in-Mark-2.is at c.in_ok-kind-2.ensures.leaves in
    let third = rw c.in-Submit.is at c.in_ok-call.ensures.leaves in
    let started : Fits code c.answer.new.self.state =
    rw (c.answer.ensures.signal (rw c.in-Mark.is at c.in_ok-kind.ensures.due ∙ ap due_at c.in-Start.is))
    (left_fits code (Begin 0 [] 1) c.run_to_event.new.self.state 1000 c.run_to_event.new.units first.1 c.in_ok-code.ensures) in
    let asked : Fits code c.answer-2.new.self.state =
    rw (c.answer-2.ensures.value (rw c.in-Mark-2.is at c.in_ok-kind-2.ensures.due ∙ ap due_at c.in-Started.is))
    (answered_fits code c.answer.new.self.state c.run_to_event-2.new.self.state c.run_to_event.new.units c.run_to_event-2.new.units 1 second.1 started) in
    rw (c.answer-3.ensures.value (rw c.in-Submit.is at c.in_ok-call.ensures.due))
    (answered_fits code c.answer-2.new.self.state c.run_to_event-3.new.self.state c.run_to_event-2.new.units c.run_to_event-3.new.units 0 third.1 asked)

use Rattle.std.proofs.Common.{[]}
use Rattle.css_vm.specs.Code.{code_of}
use Rattle.css_vm.specs.Machine.{Begin}
use Rattle.css_vm.proofs.Runs.{answered_fits}
use Rattle.css_machine_tests.proofs.machine.runs.output.Goals as goal

pub run_to_event-requires-2-clause-fits : goal.run_to_event-requires-2-clause-fits
run_to_event-requires-2-clause-fits g c =
    let leaves = rw (c.in-Out.is, c.in_ok-machine.ensures.state) at c.in_ok-printed.ensures.leaves in
    rw (c.answer.ensures.value (rw c.in-Out.is at c.in_ok-printed.ensures.due))
    (answered_fits (code_of c.in_ok-code.code) (Begin 0 [] 1) c.run_to_event.new.self.state 1000 c.run_to_event.new.units 9 leaves.1 c.in_ok-code.ensures)

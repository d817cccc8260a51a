use Rattle.std.proofs.Common.{◌≡◌, []}
use Rattle.css_semantics.specs.Memory.{stack_place}
use Rattle.css_semantics.specs.Flat.{no_globals}
use Rattle.css_semantics.specs.Units.{with_units}
use Rattle.css_vm.specs.declared.machine.Due.TheVariants as due
use Rattle.css_vm.specs.Code.{code_of}
use Rattle.css_vm.specs.Machine.{Begin}
use Rattle.css_vm.specs.Soundness.{Fits}
use Rattle.css_vm.specs.Events.{IsStacked}
use Rattle.css_io.specs.Changes.{change}
use Rattle.css_driver.specs.Running.{GoesOn}
use Rattle.css_driver.proofs.run.run_main.Given as goal

abbrev pub decreases-loop-ran : goal.decreases-loop-ran
decreases-loop-ran g l = l.units

abbrev pub invariant-loop-ran : goal.invariant-loop-ran
invariant-loop-ran g l = record {
  due : l.machine.due ≡ due.Run;
  fits : Fits (code_of l.code) l.machine.state;
  stacked : IsStacked (code_of l.code) (stack_place l.space) l.machine.state;
  goes_on : GoesOn (code_of l.code) l.initial.machine.state (with_units (no_globals l.fn.memory).memory l.fn.units) l.machine.state (with_units l.space l.units) [] l.pending (change g.O.Sink.written g.O.Sink.faults l.fn.out l.out);
}

use Rattle.std.proofs.Common.{◌≡◌}
use Rattle.css_vm.specs.declared.machine.Due.TheVariants as due
use Rattle.css_semantics.specs.Units.{with_units}
use Rattle.css_task.specs.Cells.{kept_place}
use Rattle.css_vm.specs.Code.{code_of}
use Rattle.css_vm.specs.Soundness.{Fits}
use Rattle.css_vm.specs.Events.{IsStacked}
use Rattle.css_task.specs.Arrivals.{GoesOn}
use Rattle.css_task.proofs.body.run_body.Given as goal

abbrev pub invariant-loop : goal.invariant-loop
invariant-loop l = record {
  due : l.machine.due ≡ due.Run;
  fits : Fits (code_of l.code) l.machine.state;
  stacked : IsStacked (code_of l.code) (kept_place l.space) l.machine.state;
  goes_on : GoesOn (code_of l.code) l.fn.machine.state (with_units l.fn.space l.fn.units) l.machine.state (with_units l.space l.units);
}

use Rattle.std.proofs.Common.{◌≡◌}
use Rattle.css_io.specs.Changes.{change}
use Rattle.css_judged.specs.Judged.{main_place}
use Rattle.css_vm.specs.declared.machine.Due.TheVariants as due
use Rattle.css_vm.specs.Code.{code_of}
use Rattle.css_vm.specs.Events.{IsStacked}
use Rattle.css_vm.specs.Soundness.{Fits}
use Rattle.css_main_side.specs.Playing.{begins, IsReady, Stands, GoesOn}
use Rattle.css_main_side.specs.Sides.{side}
use Rattle.css_main_side.proofs.main_run.Main.run_on.Given as goal

abbrev pub invariant-loop : goal.invariant-loop
invariant-loop g l = record {
  stands : Stands l.limits (begins l.limits) (side l.self);
  due : l.self.machine.due ≡ due.Run;
  fits : Fits (code_of l.code) l.self.machine.state;
  stacked : IsStacked (code_of l.code) (main_place l.self.memory) l.self.machine.state;
  ready : IsReady (code_of l.code) l.limits l.self.called (g.Y.Yard.code l.yard) (g.Y.Yard.limits l.yard) (g.Y.Yard.state l.yard);
  goes_on : GoesOn l.limits (begins l.limits) (code_of l.code) (side l.fn.self) (side l.self) l.fn.pending l.pending (change g.O.Sink.written g.O.Sink.faults l.fn.out l.out);
}

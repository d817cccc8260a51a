use Rattle.std.proofs.Common.{◌≡◌, []}
use Rattle.css_io.specs.Changes.{change}
use Rattle.css_judged.specs.Judged.{main_place}
use Rattle.css_vm.specs.declared.machine.Due.TheVariants as due
use Rattle.css_vm.specs.Code.{code_of}
use Rattle.css_vm.specs.Events.{IsStacked}
use Rattle.css_vm.specs.Soundness.{Fits}
use Rattle.css_main_side.specs.Playing.{begins, IsReady, Stands, GoesOn}
use Rattle.css_main_side.specs.Sides.{side}
use Rattle.css_main_side.proofs.RunParts.{first}
use Rattle.css_main_side.proofs.main_run.play.Given as goal

abbrev pub decreases-loop-ran : goal.decreases-loop-ran
decreases-loop-ran g l = l.main.units

abbrev pub invariant-loop-ran : goal.invariant-loop-ran
invariant-loop-ran g l = record {
  stands : Stands l.limits (begins l.limits) (side l.main);
  due : l.main.machine.due ≡ due.Run;
  fits : Fits (code_of l.code) l.main.machine.state;
  stacked : IsStacked (code_of l.code) (main_place l.main.memory) l.main.machine.state;
  ready : IsReady (code_of l.code) l.limits l.main.called (g.Y.Yard.code l.yard) (g.Y.Yard.limits l.yard) (g.Y.Yard.state l.yard);
  goes_on : GoesOn l.limits (begins l.limits) (code_of l.code) (first l.limits (begins l.limits) (code_of l.code)) (side l.main) [] l.pending (change g.O.Sink.written g.O.Sink.faults l.fn.out l.out);
}

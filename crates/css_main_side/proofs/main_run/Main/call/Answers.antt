use Rattle.css_io.specs.Changes.{change}
use Rattle.css_vm.specs.Code.{code_of}
use Rattle.css_main_side.specs.Calls.{Broken}
use Rattle.css_main_side.specs.Sides.{side}
use Rattle.css_main_side.proofs.TaskCalls.{points, unreturned}
use Rattle.css_main_side.proofs.main_run.Main.call.Goals as goal

pub pointer_of-base-requires : goal.pointer_of-base-requires
pointer_of-base-requires g c = points (code_of c.args.code.now) c.requires.plain c.args.call.now c.requires.whole

pub returns-in-Err-clause-ends : goal.returns-in-Err-clause-ends
returns-in-Err-clause-ends g c = Broken c.in-Err.rule (record { base = c.pointer_of-base.result; to = c.pointer_of-base.ensures; broken = c.in-Err.ensures.breaks }) c.refused.ensures

pub returns-in-Err-make_task-clause-ends : goal.returns-in-Err-make_task-clause-ends
returns-in-Err-make_task-clause-ends g c =
    unreturned c.args.limits.now (code_of c.args.code.now) c.args.call.now (side c.args.self.now) c.in-Err-make_task.answer c.args.pending.now
    (change g.O.Sink.written g.O.Sink.faults c.args.out.now c.unreturned.new.out) c.unreturned.result c.in-Err-make_task.ensures.stops c.unreturned.ensures

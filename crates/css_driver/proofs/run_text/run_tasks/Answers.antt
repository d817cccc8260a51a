use Rattle.std.proofs.Common.{refl}
use Rattle.css_vm.specs.Code.{code_of}
use Rattle.css_small.specs.Tree.{program}
use Rattle.css_io.specs.Changes.{change}
use Rattle.css_main_side.specs.Playing.{begins}
use Rattle.css_main_side.proofs.Sinks.{AppendsPrefix-nothing}
use Rattle.css_driver.specs.Answer.{HasVerdict, IsTaskAnswer}
use Rattle.css_driver.proofs.Endings.{ends_no_memory, ends_out_failed}
use Rattle.css_driver.proofs.TaskRuns.{verdict_answer, verdict_answer-is, comes_to_verdict, plain_tasks, task_prefix, task_ended}
use Rattle.css_driver.proofs.run_text.run_tasks.Goals as goal

pub play-requires-clause-plain : goal.play-requires-clause-plain
play-requires-clause-plain g c = plain_tasks (code_of c.in-Ok.code) c.in-Ok.ensures.pointers

pub returns-in_default : goal.returns-in_default
returns-in_default g c = ends_no_memory _ _ _ _ (λ a one. AppendsPrefix-nothing _ a.out) c.finish.ensures

pub returns-in-Ended : goal.returns-in-Ended
returns-in-Ended g c =
    let p = program c.args.tree.now in
    let code = code_of c.in-Ok.code in
    let known = c.program_has_verdict.ensures c.args.limits (begins c.args.limits) p c.requires.numbers in
    let has : HasVerdict c.args.limits p known.0 = (_, known.1) in
    let ran = c.in-Ended.ensures.verdict known.0 (comes_to_verdict c.args.limits code p c.in-Ok.ensures.codes known.0 has) in
    task_ended c.one_verdict.ensures c.args.limits p known.0 has _ _ _ ran.1 (rw ran.0 at c.end.ensures)

pub returns-in-WriteFault : goal.returns-in-WriteFault
returns-in-WriteFault g c =
    let p = program c.args.tree.now in
    let code = code_of c.in-Ok.code in
    let known = c.program_has_verdict.ensures c.args.limits (begins c.args.limits) p c.requires.numbers in
    let has : HasVerdict c.args.limits p known.0 = (_, known.1) in
    let ran = c.in-WriteFault.ensures.verdict known.0 (comes_to_verdict c.args.limits code p c.in-Ok.ensures.codes known.0 has) in
    ends_out_failed (IsTaskAnswer c.args.limits p) _ _ ran.0 (verdict_answer known.0) (verdict_answer-is c.args.limits p known.0 has) ran.1 refl refl

pub returns : goal.returns
returns g c =
    let p = program c.args.tree.now in
    let code = code_of c.in-Ok.code in
    let known = c.program_has_verdict.ensures c.args.limits (begins c.args.limits) p c.requires.numbers in
    let has : HasVerdict c.args.limits p known.0 = (_, known.1) in
    let ran = c.in-NoMemory.ensures.verdict known.0 (comes_to_verdict c.args.limits code p c.in-Ok.ensures.codes known.0 has) in
    ends_no_memory (IsTaskAnswer c.args.limits p) _ _ _
    (task_prefix c.one_verdict.ensures c.args.limits p known.0 has (change g.O.Sink.written g.O.Sink.faults c.args.out.now c.play.new.out) ran) c.finish-in-NoMemory.ensures

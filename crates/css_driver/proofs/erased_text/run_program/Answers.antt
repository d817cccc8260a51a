use Rattle.std.proofs.Common.{refl}
use Rattle.css_semantics.specs.Dialogue.{tape_of, output}
use Rattle.css_vm.specs.Code.{code_of}
use Rattle.css_small.specs.Tree.{program}
use Rattle.css_driver.specs.Answer.{IsRunAnswer}
use Rattle.css_io.specs.Changes.{change}
use Rattle.css_driver.proofs.Endings.{ends_no_memory, ends_out_failed}
use Rattle.css_driver.proofs.Runs.{answer_from, known, run_prefix, run_ended}
use Rattle.css_main_side.proofs.Sinks.{AppendsPrefix-nothing}
use Rattle.css_driver.proofs.erased_text.run_program.Goals as goal

pub returns-in_default : goal.returns-in_default
returns-in_default g c = ends_no_memory _ _ _ _ (λ a one. AppendsPrefix-nothing _ a.out) c.finish.ensures

pub returns-in-Ended : goal.returns-in-Ended
returns-in-Ended g c =
    let p = program c.args.tree.now in
    let code = code_of c.in-Ok.code in
    let k = known c.enough_fuel.ensures c.args.limits code p c.requires.numbers c.in-Ok.ensures.codes in
    let ran = c.in-Ended.ensures k.o k.ending k.comes k.ends in
    run_ended c.more_fuel.ensures c.args.limits code p k _ _ _ ran.1 (rw ran.0 at c.end.ensures)

pub returns-in-WriteFault : goal.returns-in-WriteFault
returns-in-WriteFault g c =
    let p = program c.args.tree.now in
    let code = code_of c.in-Ok.code in
    let k = known c.enough_fuel.ensures c.args.limits code p c.requires.numbers c.in-Ok.ensures.codes in
    let ran = c.in-WriteFault.ensures k.o k.ending k.comes k.ends in
    ends_out_failed (IsRunAnswer c.args.limits p) _ _ ran.0 (answer_from k.ending (output (tape_of k.o))) k.answer_is ran.1 refl refl

pub returns : goal.returns
returns g c =
    let p = program c.args.tree.now in
    let code = code_of c.in-Ok.code in
    let k = known c.enough_fuel.ensures c.args.limits code p c.requires.numbers c.in-Ok.ensures.codes in
    let ran = c.in-NoMemory.ensures k.o k.ending k.comes k.ends in
    ends_no_memory (IsRunAnswer c.args.limits p) _ _ _
    (run_prefix c.more_fuel.ensures c.args.limits code p k (change g.O.Sink.written g.O.Sink.faults c.args.out.now c.run_main.new.out) ran) c.finish-in-NoMemory.ensures

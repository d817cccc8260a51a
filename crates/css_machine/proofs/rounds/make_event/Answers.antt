use Rattle.css_isa.specs.declared.code.Op.TheVariants as ops
use Rattle.css_isa.specs.Code.{code_of}
use Rattle.css_machine.specs.Steps.{IsBefore}
use Rattle.css_machine.proofs.Submitting.{makes_submit}
use Rattle.css_machine.proofs.rounds.make_event.Goals as goal

pub returns-in_ok-call-in-Submit : goal.returns-in_ok-call-in-Submit
returns-in_ok-call-in-Submit c =
    let code = code_of c.args.code.now in
    let made = c.in_ok-call-in-Submit.ensures in
    let call = c.in_ok-call-in-Submit.call in
    let before : IsBefore code (ops.Submit call.function) c.args.line c.args.activations.now = rw made.0 (rw c.in-Submit.is at c.requires.before) in
    makes_submit code c.args.line c.args.activations.now call c.submit.new.activations before made.1

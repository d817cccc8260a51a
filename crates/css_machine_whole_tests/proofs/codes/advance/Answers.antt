use Rattle.std.proofs.Common.{◌∙◌}
use Rattle.css_isa.specs.Code.{code_of}
use Rattle.css_machine_whole_tests.proofs.Ready.{ready}
use Rattle.css_machine_whole_tests.proofs.codes.advance.Goals as goal

pub returns : goal.returns
returns c = λ on.
    let ran = c.in_ok-event.ensures in
    ready (code_of c.args.code.now) c.args.machine.now.state c.args.units.now c.run_to_event.new.self.state c.run_to_event.new.units c.run_to_event.new.space.place c.requires.fits c.in_ok-event.event c.args.answer c.answer.new.self on ran.leaves
    (record {
      keeps = λ is. c.answer.ensures.value (ran.due ∙ is);
      passes = λ is. c.answer.ensures.signal (ran.due ∙ is);
      due = c.answer.ensures.due;
    })

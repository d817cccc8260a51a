use Rattle.std.proofs.Common.{◌++◌, ◌∙◌, append_assoc, ap, subst}
use Rattle.css_vm.specs.Code.{code_of}
use Rattle.css_vm.specs.Due.{due_at}
use Rattle.css_vm.specs.Events.{IsOwedAt}
use Rattle.css_vm.proofs.TakenAnswers.{takes_value}
use Rattle.css_driver.proofs.RunParts.{fits_answered, stacked_answered}
use Rattle.css_main_side.proofs.Sinks.{AppendsPrefix-nothing, AppendsPrefix-front}
use Rattle.css_driver.proofs.Turns.{output-running, running_ended, running_stopped, turn_out, turn_asked, at_place}
use Rattle.css_driver.proofs.Unmarked.{no_task, only_asks}
use Rattle.css_driver.proofs.run.turn.Goals as goal

pub returns-in_default-clause-ends : goal.returns-in_default-clause-ends
returns-in_default-clause-ends g c = λ memory units o ending written is run.
    let more = output-running _ c.requires.no_marks memory units o _ _ _ run in
    (c.args.pending.now ++ more.0, more.1 ∙ append_assoc written c.args.pending.now more.0, AppendsPrefix-nothing _ _)

pub returns-in_default-add-clause-ends : goal.returns-in_default-add-clause-ends
returns-in_default-add-clause-ends g c = λ memory units o ending written is run.
    let more = output-running _ c.requires.no_marks memory units o _ _ _ run in
    let pending = c.args.pending.now in
    (pending ++ more.0, more.1 ∙ append_assoc written pending more.0, (c.in_default-add.ensures.failed, AppendsPrefix-front _ _ pending more.0 c.in_default-add.ensures.prefix))

pub returns-in-Ok-add-clause-goes_on : goal.returns-in-Ok-add-clause-goes_on
returns-in-Ok-add-clause-goes_on g c =
    let reaches = rw c.in-Out.is at c.in-Ok.ensures.event in
    let passes = rw c.as_slice-bytes.ensures at c.in-Ok-add.ensures.ok in
    rw (c.answer.ensures.value (rw c.in-Out.is at c.in-Ok.ensures.due), c.as_slice-bytes.ensures)
    (turn_out _ c.requires.no_marks c.args.machine.now.state c.run_to_event.new.self.state _ _ c.in-Out.printed c.args.pending.now c.add.new.self _ reaches passes c.in-Ok-add.ensures.never_falls)

pub returns-in-Ok-add-clause-fits : goal.returns-in-Ok-add-clause-fits
returns-in-Ok-add-clause-fits g c =
    let leaves = rw c.in-Out.is at c.in-Ok.ensures.leaves in
    rw (c.answer.ensures.value (rw c.in-Out.is at c.in-Ok.ensures.due)) (fits_answered _ c.args.machine.now.state c.run_to_event.new.self.state _ _ _ c.requires.fits leaves.1)

pub answer-requires-in-Mark : goal.answer-requires-in-Mark
answer-requires-in-Mark g c =
    let reaches = rw c.in-Mark.is at c.in-Ok.ensures.event in
    let leaves = rw c.in-Mark.is at c.in-Ok.ensures.leaves in
    let asks = only_asks _ c.requires.no_marks c.args.machine.now.state c.run_to_event.new.self.state _ _ c.in-Mark.field-0 c.in-Mark.field-1 reaches in
    let due = rw c.in-Mark.is at c.in-Ok.ensures.due in
    takes_value c.run_to_event.new.self (due ∙ ap due_at asks) (subst (λ kind. IsOwedAt kind c.run_to_event.new.self.state) asks leaves.0)

pub returns-in-Mark-clause-goes_on : goal.returns-in-Mark-clause-goes_on
returns-in-Mark-clause-goes_on g c =
    let reaches = rw c.in-Mark.is at c.in-Ok.ensures.event in
    let asks = only_asks _ c.requires.no_marks c.args.machine.now.state c.run_to_event.new.self.state _ _ c.in-Mark.field-0 c.in-Mark.field-1 reaches in
    let due = rw c.in-Mark.is at c.in-Ok.ensures.due in
    rw (c.answer-in-Mark.ensures.value (due ∙ ap due_at asks))
    (turn_asked g.O.Sink.written g.O.Sink.faults _ c.requires.no_marks c.args.machine.now.state c.run_to_event.new.self.state _ _ c.in-Mark.field-0 c.in-Mark.field-1 c.args.pending.now c.args.out.now reaches asks)

pub returns-in-Mark-clause-fits : goal.returns-in-Mark-clause-fits
returns-in-Mark-clause-fits g c =
    let reaches = rw c.in-Mark.is at c.in-Ok.ensures.event in
    let leaves = rw c.in-Mark.is at c.in-Ok.ensures.leaves in
    let asks = only_asks _ c.requires.no_marks c.args.machine.now.state c.run_to_event.new.self.state _ _ c.in-Mark.field-0 c.in-Mark.field-1 reaches in
    let due = rw c.in-Mark.is at c.in-Ok.ensures.due in
    rw (c.answer-in-Mark.ensures.value (due ∙ ap due_at asks)) (fits_answered _ c.args.machine.now.state c.run_to_event.new.self.state _ _ _ c.requires.fits leaves.1)

pub unreachable-requires : goal.unreachable-requires
unreachable-requires g c =
    no_task _ c.requires.no_marks c.args.machine.now.state c.run_to_event.new.self.state _ _ c.in-Submit.field-0 (rw c.in-Submit.is at c.in-Ok.ensures.event)

pub returns-in-Ended-clause-ends : goal.returns-in-Ended-clause-ends
returns-in-Ended-clause-ends g c = λ memory units o ending written is run.
    let reaches = rw c.in-Ended.is at c.in-Ok.ensures.event in
    let leaves = rw c.in-Ended.is at c.in-Ok.ensures.leaves in
    let place = at_place (code_of c.args.code.now) _ c.run_to_event.new.self.state leaves.0 leaves.1 in
    let ended = running_ended _ c.requires.no_marks memory units o ending is c.args.machine.now.state c.run_to_event.new.self.state _ _ (written ++ c.args.pending.now) c.in-Ended.value c.in-Ended.line reaches place run in
    (c.args.pending.now, ended.1, rw ended.0 at c.returned.ensures)

pub returns-in-Stopped-clause-ends : goal.returns-in-Stopped-clause-ends
returns-in-Stopped-clause-ends g c = λ memory units o ending written is run.
    let reaches = rw c.in-Stopped.is at c.in-Ok.ensures.event in
    let ended = running_stopped _ c.requires.no_marks memory units o ending is c.args.machine.now.state c.run_to_event.new.self.state _ _ (written ++ c.args.pending.now) c.in-Stopped.stop c.in-Stopped.line reaches run in
    (c.args.pending.now, ended.1, rw ended.0 at c.stopped.ensures)

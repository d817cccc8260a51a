use Rattle.std.proofs.Common.{◌∙◌, ap, subst}
use Rattle.css_semantics.specs.Units.{with_units}
use Rattle.css_task.specs.Cells.{kept_place}
use Rattle.css_vm.specs.declared.code.MarkKind.{MarkKind}
use Rattle.css_vm.specs.declared.machine.Event.TheVariants as events
use Rattle.css_vm.specs.Code.{code_of}
use Rattle.css_vm.specs.Due.{due_at}
use Rattle.css_vm.specs.Events.{IsOwedAt}
use Rattle.css_vm.proofs.TakenAnswers.{takes_value}
use Rattle.css_vm.proofs.Runs.{answered_fits}
use Rattle.css_task.specs.Arrivals.{Arrives}
use Rattle.css_task.proofs.Arrivals.{goes_nowhere, arrives, goes_on, answered_stacked, no_out, no_submit, only_asks}
use Rattle.css_task.proofs.body.run_body.Goals as goal

pub loop-init : goal.loop-init
loop-init c = record {
  due = c.requires.due;
  fits = c.requires.fits;
  stacked = c.requires.stacked;
  goes_on = goes_nowhere (code_of c.args.code.now) c.args.machine.now.state (with_units c.args.space.now c.args.units.now);
}

pub returns-in-Ended : goal.returns-in-Ended
returns-in-Ended c =
    let new = c.run_to_event.new in
    let leaves = rw c.in-Ended.is at c.in_ok-event.ensures.leaves in
    let arrived = arrives (code_of c.args.code.now) c.args.machine.now.state (with_units c.args.space.now c.args.units.now) c.loop.machine.state (with_units c.loop.space c.loop.units) c.loop.invariant.goes_on
    (events.Ended c.in-Ended.field-0 c.in-Ended.line) new.self.state (with_units new.space new.units) (rw c.in-Ended.is at c.in_ok-event.ensures.event) in
    ((c.in-Ended.field-0, arrived), leaves.0, leaves.1)

pub returns-in-Stopped : goal.returns-in-Stopped
returns-in-Stopped c =
    let new = c.run_to_event.new in
    arrives (code_of c.args.code.now) c.args.machine.now.state (with_units c.args.space.now c.args.units.now) c.loop.machine.state (with_units c.loop.space c.loop.units) c.loop.invariant.goes_on
    (events.Stopped c.in-Stopped.stop c.in-Stopped.line) new.self.state (with_units new.space new.units) (rw c.in-Stopped.is at c.in_ok-event.ensures.event)

pub unreachable-requires : goal.unreachable-requires
unreachable-requires c =
    let code = code_of c.args.code.now in
    let old = c.args.machine.now.state in
    let start = with_units c.args.space.now c.args.units.now in
    let new = c.run_to_event.new in
    no_out code old start c.requires.fits.0 c.requires.fits.1 c.requires.quiet c.in-Out.field-0 new.self.state (with_units new.space new.units)
    (arrives code old start c.loop.machine.state (with_units c.loop.space c.loop.units) c.loop.invariant.goes_on
    (events.Out c.in-Out.field-0) new.self.state (with_units new.space new.units) (rw c.in-Out.is at c.in_ok-event.ensures.event))

pub unreachable-requires-in-Submit : goal.unreachable-requires-in-Submit
unreachable-requires-in-Submit c =
    let code = code_of c.args.code.now in
    let old = c.args.machine.now.state in
    let start = with_units c.args.space.now c.args.units.now in
    let new = c.run_to_event.new in
    no_submit code old start c.requires.fits.0 c.requires.fits.1 c.requires.quiet c.in-Submit.field-0 new.self.state (with_units new.space new.units)
    (arrives code old start c.loop.machine.state (with_units c.loop.space c.loop.units) c.loop.invariant.goes_on
    (events.Submit c.in-Submit.field-0) new.self.state (with_units new.space new.units) (rw c.in-Submit.is at c.in_ok-event.ensures.event))

pub answer-requires : goal.answer-requires
answer-requires c =
    let code = code_of c.args.code.now in
    let old = c.args.machine.now.state in
    let start = with_units c.args.space.now c.args.units.now in
    let new = c.run_to_event.new in
    let leaves = rw c.in-Mark.is at c.in_ok-event.ensures.leaves in
    let arrived = arrives code old start c.loop.machine.state (with_units c.loop.space c.loop.units) c.loop.invariant.goes_on
    (events.Mark c.in-Mark.field-0 c.in-Mark.field-1) new.self.state (with_units new.space new.units) (rw c.in-Mark.is at c.in_ok-event.ensures.event) in
    let asks = only_asks code old start c.requires.fits.0 c.requires.fits.1 c.requires.quiet c.in-Mark.field-0 c.in-Mark.field-1 new.self.state (with_units new.space new.units) arrived in
    let due = rw c.in-Mark.is at c.in_ok-event.ensures.due in
    takes_value new.self (due ∙ ap due_at asks) (subst (λ kind. IsOwedAt kind new.self.state) asks leaves.0)

pub loop-preserved : goal.loop-preserved
loop-preserved c =
    let code = code_of c.args.code.now in
    let old = c.args.machine.now.state in
    let start = with_units c.args.space.now c.args.units.now in
    let new = c.run_to_event.new in
    let leaves = rw c.in-Mark.is at c.in_ok-event.ensures.leaves in
    let arrived = arrives code old start c.loop.machine.state (with_units c.loop.space c.loop.units) c.loop.invariant.goes_on
    (events.Mark c.in-Mark.field-0 c.in-Mark.field-1) new.self.state (with_units new.space new.units) (rw c.in-Mark.is at c.in_ok-event.ensures.event) in
    let asks = only_asks code old start c.requires.fits.0 c.requires.fits.1 c.requires.quiet c.in-Mark.field-0 c.in-Mark.field-1 new.self.state (with_units new.space new.units) arrived in
    let asked = subst (λ (kind : MarkKind). Arrives code old start (events.Mark kind c.in-Mark.field-1) new.self.state (with_units new.space new.units)) asks arrived in
    let due = rw c.in-Mark.is at c.in_ok-event.ensures.due in
    rw (c.answer.ensures.value (due ∙ ap due_at asks))
    (record {
      due = c.answer.ensures.due;
      fits = answered_fits code c.loop.machine.state new.self.state c.loop.units new.units 0 leaves.1 c.loop.invariant.fits;
      stacked = answered_stacked code (kept_place new.space) 0 new.self.state leaves.2;
      goes_on = goes_on code old start c.in-Mark.field-1 new.self.state (with_units new.space new.units) asked;
    })

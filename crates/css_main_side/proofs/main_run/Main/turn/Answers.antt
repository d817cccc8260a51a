use Rattle.std.proofs.Common.{ap, sym, subst}
use Rattle.css_io.specs.Changes.{change}
use Rattle.css_judged.specs.Judged.{main_place}
use Rattle.css_semantics.specs.Units.{with_units}
use Rattle.css_vm.specs.declared.machine.Event.TheVariants as events
use Rattle.css_vm.specs.Code.{code_of}
use Rattle.css_vm.specs.Events.{IsStacked}
use Rattle.css_vm.specs.Machine.{State, answered}
use Rattle.css_vm.specs.Soundness.{Fits}
use Rattle.css_main_side.specs.Playing.{begins, IsReady, Side}
use Rattle.css_main_side.specs.Sides.{side}
use Rattle.css_main_side.proofs.Arms.{on_none, on_none2, on_some, stands_there, out_moves, mark_moves, mark_ends, mark_machine, end_ends, stop_ends, call_moves, call_ends, call_machine, call_place, at_place}
use Rattle.css_main_side.proofs.OneByOne.{left_ready, marked_called}
use Rattle.css_main_side.proofs.RunParts.{goes_silently, goes_out, fails, gives_up, fits_behind, fits_answered, stacked_answered}
use Rattle.css_main_side.proofs.RunParts.{begins_well}
use Rattle.css_main_side.proofs.main_run.Main.turn.Goals as goal

pub returns-in_default-clause-ends : goal.returns-in_default-clause-ends
returns-in_default-clause-ends g c =
    gives_up g.O.Sink.written g.O.Sink.faults c.args.limits.now (begins c.args.limits.now) (code_of c.args.code.now) (side c.args.self.now) c.args.pending.now c.args.out.now

pub call-requires-clause-stands : goal.call-requires-clause-stands
call-requires-clause-stands g c =
    let reaches = rw c.in-Submit.is at c.in-Ok.ensures.event in
    stands_there c.args.limits.now (begins c.args.limits.now) (code_of c.args.code.now) c.requires.in_range (begins_well c.args.limits.now c.requires.in_range) (side c.args.self.now) c.run_to_event.new.self.state (with_units c.run_to_event.new.space c.run_to_event.new.units) (events.Submit c.in-Submit.call) reaches reaches.is_left c.requires.stands

pub returns-in-Out-clause-goes_on : goal.returns-in-Out-clause-goes_on
returns-in-Out-clause-goes_on g c =
    let reaches = rw c.in-Out.is at c.in-Ok.ensures.event in
    let answers = rw c.as_slice.ensures at c.print.ensures.answers in
    let passes = rw c.as_slice.ensures at c.print.ensures.passes in
    on_none2 c.print.result (λ is passed.
    goes_out c.args.limits.now (begins c.args.limits.now) (code_of c.args.code.now) (side c.args.self.now) (side c.print.new.self) c.in-Out.printed c.args.pending.now c.print.new.pending (change g.O.Sink.written g.O.Sink.faults c.args.out.now c.print.new.out)
    (out_moves c.args.limits.now (begins c.args.limits.now) (code_of c.args.code.now) c.requires.in_range (begins_well c.args.limits.now c.requires.in_range) (side c.args.self.now) c.run_to_event.new.self.state (with_units c.run_to_event.new.space c.run_to_event.new.units) c.in-Out.printed (side c.print.new.self) reaches is) passed c.print.ensures.never_falls) answers passes

pub returns-in-Out-clause-stands : goal.returns-in-Out-clause-stands
returns-in-Out-clause-stands g c =
    let reaches = rw c.in-Out.is at c.in-Ok.ensures.event in
    let answers = rw c.as_slice.ensures at c.print.ensures.answers in
    on_none c.print.result (λ is. (out_moves c.args.limits.now (begins c.args.limits.now) (code_of c.args.code.now) c.requires.in_range (begins_well c.args.limits.now c.requires.in_range) (side c.args.self.now) c.run_to_event.new.self.state (with_units c.run_to_event.new.space c.run_to_event.new.units) c.in-Out.printed (side c.print.new.self) reaches is c.requires.stands).there) answers

pub returns-in-Out-clause-fits : goal.returns-in-Out-clause-fits
returns-in-Out-clause-fits g c =
    let leaves = rw c.in-Out.is at c.in-Ok.ensures.leaves in
    on_none c.print.result (λ is. subst (λ (x : Side). Fits (code_of c.args.code.now) x.machine) (sym is) (fits_answered (code_of c.args.code.now) _ c.run_to_event.new.self.state (fits_behind (code_of c.args.code.now) c.args.self.now.machine.state c.run_to_event.new.self.state c.args.self.now.units c.run_to_event.new.units c.requires.fits leaves.1))) c.print.ensures.answers

pub returns-in-Out-clause-ends : goal.returns-in-Out-clause-ends
returns-in-Out-clause-ends g c =
    on_some c.print.result (λ ran failed. fails c.args.limits.now (begins c.args.limits.now) (code_of c.args.code.now) (side c.args.self.now) c.args.pending.now (change g.O.Sink.written g.O.Sink.faults c.args.out.now c.print.new.out) ran failed) c.print.ensures.fails

pub returns-in-Mark-clause-goes_on : goal.returns-in-Mark-clause-goes_on
returns-in-Mark-clause-goes_on g c =
    let reaches = rw c.in-Mark.is at c.in-Ok.ensures.event in
    on_none2 c.mark.result (λ is nothing.
    goes_silently c.args.limits.now (begins c.args.limits.now) (code_of c.args.code.now) (side c.args.self.now) (side c.mark.new.self) g.O.Sink.written g.O.Sink.faults (mark_moves c.args.limits.now (begins c.args.limits.now) (code_of c.args.code.now) c.requires.in_range (begins_well c.args.limits.now c.requires.in_range) (side c.args.self.now) c.run_to_event.new.self.state (with_units c.run_to_event.new.space c.run_to_event.new.units) c.in-Mark.kind c.in-Mark.line (side c.mark.new.self) reaches is)
    c.args.pending.now c.mark.new.pending c.args.out.now c.mark.new.out nothing.0 nothing.1) c.mark.ensures.marked c.mark.ensures.nothing

pub returns-in-Mark-clause-stands : goal.returns-in-Mark-clause-stands
returns-in-Mark-clause-stands g c =
    let reaches = rw c.in-Mark.is at c.in-Ok.ensures.event in
    on_none c.mark.result (λ is. (mark_moves c.args.limits.now (begins c.args.limits.now) (code_of c.args.code.now) c.requires.in_range (begins_well c.args.limits.now c.requires.in_range) (side c.args.self.now) c.run_to_event.new.self.state (with_units c.run_to_event.new.space c.run_to_event.new.units) c.in-Mark.kind c.in-Mark.line (side c.mark.new.self) reaches is c.requires.stands).there) c.mark.ensures.marked

pub returns-in-Mark-clause-fits : goal.returns-in-Mark-clause-fits
returns-in-Mark-clause-fits g c =
    let leaves = rw c.in-Mark.is at c.in-Ok.ensures.leaves in
    let fit = fits_behind (code_of c.args.code.now) c.args.self.now.machine.state c.run_to_event.new.self.state c.args.self.now.units c.run_to_event.new.units c.requires.fits leaves.1 in
    on_none c.mark.result (λ is. mark_machine c.args.limits.now (begins c.args.limits.now) (code_of c.args.code.now) c.requires.in_range (begins_well c.args.limits.now c.requires.in_range) (side c.args.self.now) c.run_to_event.new.self.state (with_units c.run_to_event.new.space c.run_to_event.new.units) c.in-Mark.kind (side c.mark.new.self) is (λ (s : State). Fits (code_of c.args.code.now) s) fit (λ value. fits_answered (code_of c.args.code.now) value c.run_to_event.new.self.state fit)) c.mark.ensures.marked

pub returns-in-Mark-clause-ends : goal.returns-in-Mark-clause-ends
returns-in-Mark-clause-ends g c =
    let reaches = rw c.in-Mark.is at c.in-Ok.ensures.event in
    on_some c.mark.result (λ ran is. mark_ends c.args.limits.now (begins c.args.limits.now) (code_of c.args.code.now) c.requires.in_range (begins_well c.args.limits.now c.requires.in_range) (side c.args.self.now) c.run_to_event.new.self.state (with_units c.run_to_event.new.space c.run_to_event.new.units) c.in-Mark.kind c.in-Mark.line c.args.pending.now (change g.O.Sink.written g.O.Sink.faults c.args.out.now c.mark.new.out) ran reaches is) c.mark.ensures.ends

pub returns-in-Submit-clause-goes_on : goal.returns-in-Submit-clause-goes_on
returns-in-Submit-clause-goes_on g c =
    let reaches = rw c.in-Submit.is at c.in-Ok.ensures.event in
    let leaves = rw c.in-Submit.is at c.in-Ok.ensures.leaves in
    on_none2 c.call.result (λ is nothing.
    goes_silently c.args.limits.now (begins c.args.limits.now) (code_of c.args.code.now) (side c.args.self.now) (side c.call.new.self) g.O.Sink.written g.O.Sink.faults (call_moves c.args.limits.now (begins c.args.limits.now) (code_of c.args.code.now) c.requires.in_range (begins_well c.args.limits.now c.requires.in_range) (side c.args.self.now) c.run_to_event.new.self.state (with_units c.run_to_event.new.space c.run_to_event.new.units) c.requires.sound.0 c.requires.sound.1 c.requires.plain c.in-Submit.call reaches leaves.0 (side c.call.new.self) is)
    c.args.pending.now c.call.new.pending c.args.out.now c.call.new.out nothing.0 nothing.1) c.call.ensures.returns c.call.ensures.nothing

pub returns-in-Submit-clause-stands : goal.returns-in-Submit-clause-stands
returns-in-Submit-clause-stands g c =
    let reaches = rw c.in-Submit.is at c.in-Ok.ensures.event in
    let leaves = rw c.in-Submit.is at c.in-Ok.ensures.leaves in
    on_none c.call.result (λ is. (call_moves c.args.limits.now (begins c.args.limits.now) (code_of c.args.code.now) c.requires.in_range (begins_well c.args.limits.now c.requires.in_range) (side c.args.self.now) c.run_to_event.new.self.state (with_units c.run_to_event.new.space c.run_to_event.new.units) c.requires.sound.0 c.requires.sound.1 c.requires.plain c.in-Submit.call reaches leaves.0 (side c.call.new.self) is c.requires.stands).there) c.call.ensures.returns

pub returns-in-Submit-clause-fits : goal.returns-in-Submit-clause-fits
returns-in-Submit-clause-fits g c =
    let leaves = rw c.in-Submit.is at c.in-Ok.ensures.leaves in
    on_none c.call.result (λ is. subst (λ (s : State). Fits (code_of c.args.code.now) s) (sym (call_machine c.args.limits.now (begins c.args.limits.now) (code_of c.args.code.now) c.requires.in_range (begins_well c.args.limits.now c.requires.in_range) (side c.args.self.now) c.run_to_event.new.self.state (with_units c.run_to_event.new.space c.run_to_event.new.units) c.in-Submit.call (side c.call.new.self) is)) (fits_answered (code_of c.args.code.now) 0 c.run_to_event.new.self.state (fits_behind (code_of c.args.code.now) c.args.self.now.machine.state c.run_to_event.new.self.state c.args.self.now.units c.run_to_event.new.units c.requires.fits leaves.1))) c.call.ensures.returns

pub returns-in-Submit-clause-stacked : goal.returns-in-Submit-clause-stacked
returns-in-Submit-clause-stacked g c =
    let leaves = rw c.in-Submit.is at c.in-Ok.ensures.leaves in
    on_none c.call.result (λ is.
    subst (λ (s : State). IsStacked (code_of c.args.code.now) (main_place c.call.new.self.memory) s) (sym (call_machine c.args.limits.now (begins c.args.limits.now) (code_of c.args.code.now) c.requires.in_range (begins_well c.args.limits.now c.requires.in_range) (side c.args.self.now) c.run_to_event.new.self.state (with_units c.run_to_event.new.space c.run_to_event.new.units) c.in-Submit.call (side c.call.new.self) is))
    (subst (λ p. IsStacked (code_of c.args.code.now) p (answered 0 c.run_to_event.new.self.state)) (sym (call_place c.args.limits.now (begins c.args.limits.now) (code_of c.args.code.now) c.requires.in_range (begins_well c.args.limits.now c.requires.in_range) (side c.args.self.now) c.run_to_event.new.self.state (with_units c.run_to_event.new.space c.run_to_event.new.units) c.in-Submit.call (side c.call.new.self) is)) (stacked_answered (code_of c.args.code.now) (main_place c.run_to_event.new.space) 0 c.run_to_event.new.self.state leaves.2))) c.call.ensures.returns

pub returns-in-Submit-clause-ends : goal.returns-in-Submit-clause-ends
returns-in-Submit-clause-ends g c =
    let reaches = rw c.in-Submit.is at c.in-Ok.ensures.event in
    let leaves = rw c.in-Submit.is at c.in-Ok.ensures.leaves in
    on_some c.call.result (λ ran is. call_ends c.args.limits.now (begins c.args.limits.now) (code_of c.args.code.now) c.requires.in_range (begins_well c.args.limits.now c.requires.in_range) (side c.args.self.now) c.run_to_event.new.self.state (with_units c.run_to_event.new.space c.run_to_event.new.units) c.requires.sound.0 c.requires.sound.1 c.requires.plain c.in-Submit.call reaches leaves.0 c.args.pending.now (change g.O.Sink.written g.O.Sink.faults c.args.out.now c.call.new.out) ran is) c.call.ensures.ends

pub returns-in-Ended-clause-ends : goal.returns-in-Ended-clause-ends
returns-in-Ended-clause-ends g c =
    let reaches = rw c.in-Ended.is at c.in-Ok.ensures.event in
    let leaves = rw c.in-Ended.is at c.in-Ok.ensures.leaves in
    end_ends c.args.limits.now (begins c.args.limits.now) (code_of c.args.code.now) c.requires.in_range (begins_well c.args.limits.now c.requires.in_range) (side c.args.self.now) c.run_to_event.new.self.state (with_units c.run_to_event.new.space c.run_to_event.new.units) c.in-Ended.value c.in-Ended.line c.args.pending.now (change g.O.Sink.written g.O.Sink.faults c.args.out.now c.returned.new.out) c.returned.result reaches
    (at_place (code_of c.args.code.now) (main_place c.run_to_event.new.space) c.run_to_event.new.self.state leaves.0 leaves.1) c.returned.ensures

pub returns-in-Stopped-clause-ends : goal.returns-in-Stopped-clause-ends
returns-in-Stopped-clause-ends g c =
    let reaches = rw c.in-Stopped.is at c.in-Ok.ensures.event in
    stop_ends c.args.limits.now (begins c.args.limits.now) (code_of c.args.code.now) c.requires.in_range (begins_well c.args.limits.now c.requires.in_range) (side c.args.self.now) c.run_to_event.new.self.state (with_units c.run_to_event.new.space c.run_to_event.new.units) c.in-Stopped.stop c.in-Stopped.line c.args.pending.now (change g.O.Sink.written g.O.Sink.faults c.args.out.now c.stopped.new.out) c.stopped.result reaches c.stopped.ensures

-- ---- the yard, and what the machine takes

pub returns-in_default-clause-left : goal.returns-in_default-clause-left
returns-in_default-clause-left g c =
    left_ready (code_of c.args.code.now) c.args.limits.now (g.Y.Yard.code c.args.yard.now) (g.Y.Yard.limits c.args.yard.now) c.args.self.now.called (g.Y.Yard.state c.args.yard.now) c.requires.ready

pub print-requires-clause-due : goal.print-requires-clause-due
print-requires-clause-due g c =
    rw c.in-Out.is at c.in-Ok.ensures.due

pub returns-in-Out-clause-ready : goal.returns-in-Out-clause-ready
returns-in-Out-clause-ready g c =
    on_none c.print.result (λ is. subst (λ n. IsReady (code_of c.args.code.now) c.args.limits.now n (g.Y.Yard.code c.args.yard.now) (g.Y.Yard.limits c.args.yard.now) (g.Y.Yard.state c.args.yard.now)) (sym (ap (λ (x : Side). x.called) is)) c.requires.ready) c.print.ensures.answers

pub returns-in-Out-clause-left : goal.returns-in-Out-clause-left
returns-in-Out-clause-left g c =
    on_some c.print.result (λ ran failed. left_ready (code_of c.args.code.now) c.args.limits.now (g.Y.Yard.code c.args.yard.now) (g.Y.Yard.limits c.args.yard.now) c.args.self.now.called (g.Y.Yard.state c.args.yard.now) c.requires.ready) c.print.ensures.fails

pub mark-requires-clause-due : goal.mark-requires-clause-due
mark-requires-clause-due g c =
    rw c.in-Mark.is at c.in-Ok.ensures.due

pub returns-in-Mark-clause-ready : goal.returns-in-Mark-clause-ready
returns-in-Mark-clause-ready g c =
    on_none c.mark.result (λ is. subst (λ n. IsReady (code_of c.args.code.now) c.args.limits.now n (g.Y.Yard.code c.args.yard.now) (g.Y.Yard.limits c.args.yard.now) (g.Y.Yard.state c.args.yard.now)) (sym (marked_called c.in-Mark.kind _ (side c.mark.new.self) is)) c.requires.ready) c.mark.ensures.marked

pub returns-in-Mark-clause-left : goal.returns-in-Mark-clause-left
returns-in-Mark-clause-left g c =
    on_some c.mark.result (λ ran is. left_ready (code_of c.args.code.now) c.args.limits.now (g.Y.Yard.code c.args.yard.now) (g.Y.Yard.limits c.args.yard.now) c.args.self.now.called (g.Y.Yard.state c.args.yard.now) c.requires.ready) c.mark.ensures.ends

pub call-requires-clause-due : goal.call-requires-clause-due
call-requires-clause-due g c =
    rw c.in-Submit.is at c.in-Ok.ensures.due

pub returns-in-Ended-clause-left : goal.returns-in-Ended-clause-left
returns-in-Ended-clause-left g c =
    left_ready (code_of c.args.code.now) c.args.limits.now (g.Y.Yard.code c.args.yard.now) (g.Y.Yard.limits c.args.yard.now) c.args.self.now.called (g.Y.Yard.state c.args.yard.now) c.requires.ready

pub returns-in-Stopped-clause-left : goal.returns-in-Stopped-clause-left
returns-in-Stopped-clause-left g c =
    left_ready (code_of c.args.code.now) c.args.limits.now (g.Y.Yard.code c.args.yard.now) (g.Y.Yard.limits c.args.yard.now) c.args.self.now.called (g.Y.Yard.state c.args.yard.now) c.requires.ready

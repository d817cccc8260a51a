use Rattle.std.proofs.Common.{◌≡◌, ◌+◌, ◌-◌, ◌≤◌, length, reverse, ap, sym, ◌∙◌, subst, arith}
use Rattle.css_isa.specs.Code.{routine, code_of}
use Rattle.css_isa.specs.Steps.{At}
use Rattle.css_isa.specs.Soundness.{Fits}
use Rattle.css_machine.specs.Modes.{mode_as}
use Rattle.css_machine.specs.Events.{IsStacked}
use Rattle.css_machine.specs.Stacks.{Parted}
use Rattle.css_machine.specs.States.{running, callers_of}
use Rattle.css_machine.specs.Steps.{here}
use Rattle.css_machine.proofs.Runs.{state_room, comes_to_pause}
use Rattle.css_machine.proofs.activations.Activations.run_to_pause.Goals as goal

pub take_turns-pause-requires : goal.take_turns-pause-requires
take_turns-pause-requires g c =
    let me = c.self.inside in
    let code = code_of c.args.code.now in
    let f = routine c.function-function.result.now in
    let stack = c.replace-stack.result in
    let roomy = c.in_ok-make_room.ensures in
    let callers = callers_of (reverse me.callers.items) me.stack.below in
    let own : stack.own ≡ me.stack.own = ap (λ (p : Parted). p.own) c.replace-stack.ensures.value ∙ roomy.own in
    let fits : Fits code (At (running me.function me.base (mode_as me.mode)) callers me.place stack.own) = rw own (subst (Fits code) (sym c.self.view_is) c.requires.fits) in
    let room : length stack.below + length stack.own + length c.as_slice.result.now ≤ stack.capacity = rw c.replace-stack.ensures.value roomy.room in
    let enough : length f.body ≤ stack.capacity - (length stack.below + length stack.own) = omega (arith, room, ap length c.as_slice.ensures) in
    state_room code f me.function me.base callers (here (mode_as me.mode) me.place stack.own) _ fits c.function-function.ensures enough

pub returns : goal.returns
returns g c =
    let me = c.self.inside in
    let code = code_of c.args.code.now in
    let f = routine c.function-function.result.now in
    let stack = c.replace-stack.result in
    let new = c.take_turns-pause.new in
    let roomy = c.in_ok-make_room.ensures in
    let callers = callers_of (reverse me.callers.items) me.stack.below in
    let own : stack.own ≡ me.stack.own = ap (λ (p : Parted). p.own) c.replace-stack.ensures.value ∙ roomy.own in
    let below : c.take_turns-pause.new.stack.below ≡ me.stack.below = c.take_turns-pause.ensures.below ∙ ap (λ (p : Parted). p.below) c.replace-stack.ensures.value ∙ roomy.below in
    let stacked : IsStacked code (g.S.Space.place c.args.space.now) (At (running me.function me.base (mode_as me.mode)) callers me.place me.stack.own) = subst (IsStacked code (g.S.Space.place c.args.space.now)) (sym c.self.view_is) c.requires.stacked in
    let paused = rw own at c.take_turns-pause.ensures.pauses in
    rw (← c.self.view_is, below)
    (comes_to_pause g.S.Space.reply g.S.Space.learn code g.S.Space.place f me.function me.base callers (here (mode_as me.mode) me.place me.stack.own) c.args.space.now c.args.units.now c.take_turns-pause.result
    (here (mode_as new.mode) new.place new.stack.own) new.space new.units c.function-function.ensures paused c.take_turns-pause.ensures.stays stacked)

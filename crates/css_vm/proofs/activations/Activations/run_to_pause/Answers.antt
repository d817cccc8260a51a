use Rattle.std.proofs.Common.{reverse, sym, subst}
use Rattle.css_vm.specs.Code.{routine, code_of}
use Rattle.css_vm.specs.Soundness.{Fits}
use Rattle.css_vm.specs.Events.{IsStacked}
use Rattle.css_vm.specs.Stacks.{callers_of}
use Rattle.css_vm.proofs.Runs.{placed_at, comes_to_pause}
use Rattle.css_vm.proofs.activations.Activations.run_to_pause.Goals as goal

pub take_steps-requires : goal.take_steps-requires
take_steps-requires g c =
    let me = c.self.inside in
    placed_at (code_of c.args.code.now) (routine c.function-function.result.now) me.function me.base me.place (callers_of (reverse me.callers.items) me.stack.below) me.stack.own (subst (Fits (code_of c.args.code.now)) (sym c.self.view_is) c.requires.fits) c.function-function.ensures

pub returns-clause-comes : goal.returns-clause-comes
returns-clause-comes g c = λ units.
    let me = c.self.inside in
    let f = routine c.function-function.result.now in
    rw (← c.self.view_is, c.in_ok-pause.ensures.kept)
    (comes_to_pause g.S.Space.reply g.S.Space.learn (code_of c.args.code.now) g.S.Space.place f me.function me.base me.place (callers_of (reverse me.callers.items) me.stack.below) me.stack.own c.args.space.now units c.in_ok-pause.pause c.take_steps.new.place c.take_steps.new.stack.own c.take_steps.new.space c.function-function.ensures (c.in_ok-pause.ensures.pauses units) c.in_ok-pause.ensures.place (subst (IsStacked (code_of c.args.code.now) (g.S.Space.place c.args.space.now)) (sym c.self.view_is) c.requires.stacked))

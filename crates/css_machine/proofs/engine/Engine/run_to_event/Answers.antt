use Rattle.std.proofs.Common.{◌≡◌, sym, subst}
use Rattle.std.proofs.lemmas.Result.{IfOk-weaker}
use Rattle.css_isa.specs.Code.{code_of, routine}
use Rattle.css_isa.specs.Steps.{Begin}
use Rattle.css_isa.specs.Soundness.{Fits}
use Rattle.css_machine.specs.Steps.{Went}
use Rattle.css_machine.proofs.Runs.{went_fits, went_comes}
use Rattle.css_machine.proofs.Calls.{round_begin, begin_stops}
use Rattle.css_machine.proofs.engine.Engine.run_to_event.Goals as goal

pub run-requires-in-Ok-clause-fits : goal.run-requires-in-Ok-clause-fits
run-requires-in-Ok-clause-fits g c =
    let me = c.self.inside in
    let code = code_of c.args.code.now in
    let old : Begin me.function me.arguments.items me.line ≡ c.args.self.now = rw c.if-self.false at c.self.view_is in
    let entered = c.in-Ok.ensures in
    let round = round_begin g.S.Space.reply g.S.Space.learn g.S.Space.place code me.line me.function me.arguments.items c.args.space.now c.args.units.now c.in-Ok.base (routine c.function.result.now) c.enter.new.space c.enter.new.units c.function.ensures (rw c.deref.ensures.value at entered.enters) entered.takes entered.at in
    rw c.new.ensures
    (went_fits g.S.Space.reply g.S.Space.learn code round.0 (subst (Fits code) (sym old) c.requires.fits))

pub returns-in-Ok-clause-event : goal.returns-in-Ok-clause-event
returns-in-Ok-clause-event g c =
    let me = c.self.inside in
    let code = code_of c.args.code.now in
    let old : Begin me.function me.arguments.items me.line ≡ c.args.self.now = rw c.if-self.false at c.self.view_is in
    let entered = c.in-Ok.ensures in
    let round = round_begin g.S.Space.reply g.S.Space.learn g.S.Space.place code me.line me.function me.arguments.items c.args.space.now c.args.units.now c.in-Ok.base (routine c.function.result.now) c.enter.new.space c.enter.new.units c.function.ensures (rw c.deref.ensures.value at entered.enters) entered.takes entered.at in
    let went : Went g.S.Space.reply g.S.Space.learn code c.args.self.now c.args.space.now c.args.units.now c.new.result c.enter.new.space c.enter.new.units = rw (c.new.ensures, ← old) round.0 in
    IfOk-weaker c.run-in-Ok.result _ _ (λ e run. (went_comes g.S.Space.reply g.S.Space.learn code g.S.Space.place e c.run-in-Ok.new.activations c.run-in-Ok.new.space c.run-in-Ok.new.units went run).0) c.run-in-Ok.ensures

pub returns-in-Ok-clause-leaves : goal.returns-in-Ok-clause-leaves
returns-in-Ok-clause-leaves g c =
    let me = c.self.inside in
    let code = code_of c.args.code.now in
    let old : Begin me.function me.arguments.items me.line ≡ c.args.self.now = rw c.if-self.false at c.self.view_is in
    let entered = c.in-Ok.ensures in
    let round = round_begin g.S.Space.reply g.S.Space.learn g.S.Space.place code me.line me.function me.arguments.items c.args.space.now c.args.units.now c.in-Ok.base (routine c.function.result.now) c.enter.new.space c.enter.new.units c.function.ensures (rw c.deref.ensures.value at entered.enters) entered.takes entered.at in
    let went : Went g.S.Space.reply g.S.Space.learn code c.args.self.now c.args.space.now c.args.units.now c.new.result c.enter.new.space c.enter.new.units = rw (c.new.ensures, ← old) round.0 in
    IfOk-weaker c.run-in-Ok.result _ _ (λ e run. (went_comes g.S.Space.reply g.S.Space.learn code g.S.Space.place e c.run-in-Ok.new.activations c.run-in-Ok.new.space c.run-in-Ok.new.units went run).1) c.run-in-Ok.ensures

pub returns-in-Err-clause-event : goal.returns-in-Err-clause-event
returns-in-Err-clause-event g c =
    let me = c.self.inside in
    let code = code_of c.args.code.now in
    let old : Begin me.function me.arguments.items me.line ≡ c.args.self.now = rw c.if-self.false at c.self.view_is in
    let stopped = begin_stops g.S.Space.reply g.S.Space.learn g.S.Space.place code me.line me.function me.arguments.items c.args.space.now c.args.units.now (routine c.function.result.now) c.in-Err.stop c.args.self.now c.enter.new.space c.enter.new.units c.function.ensures (rw c.deref.ensures.value at c.in-Err.ensures.stops) in
    rw old at stopped.0

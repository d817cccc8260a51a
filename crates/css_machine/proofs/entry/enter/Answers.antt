use Rattle.std.proofs.lemmas.Result.{err_from_is_err_and}
use Rattle.css_semantics.specs.Units.{with_units, metered, spending}
use Rattle.css_isa.specs.Code.{routine}
use Rattle.css_machine.proofs.Entries.{enters, stops_at_store, stops_at_frame}
use Rattle.css_machine.proofs.entry.enter.Goals as goal

pub returns-in_err-base-clause-stops : goal.returns-in_err-base-clause-stops
returns-in_err-base-clause-stops g c =
    let exit = err_from_is_err_and c.from_residual.result c.from_residual.ensures.1 in
    rw exit.1
    (stops_at_frame (metered g.S.Space.reply) (spending g.S.Space.learn) (routine c.args.function.now) c.args.arguments.now (with_units c.args.space.now c.args.units.now) exit.0 (rw exit.2 c.in_err-base.ensures.refuses))

pub returns-in_err-store_arguments-clause-stops : goal.returns-in_err-store_arguments-clause-stops
returns-in_err-store_arguments-clause-stops g c =
    let exit = err_from_is_err_and c.from_residual-in_err-store_arguments.result c.from_residual-in_err-store_arguments.ensures.1 in
    let opened = c.in_ok-base.ensures in
    rw exit.1
    (stops_at_store (metered g.S.Space.reply) (spending g.S.Space.learn) (routine c.args.function.now) c.args.arguments.now (with_units c.args.space.now c.args.units.now) c.in_ok-base.base exit.0 opened.says
    (rw (← opened.learns) (rw (exit.2, ← c.as_slice.ensures) (c.in_err-store_arguments.ensures.stops c.open_frame.new.units))))

pub returns-clause-enters : goal.returns-clause-enters
returns-clause-enters g c =
    let opened = c.in_ok-base.ensures in
    enters (metered g.S.Space.reply) (spending g.S.Space.learn) (routine c.args.function.now) c.args.arguments.now (with_units c.args.space.now c.args.units.now) c.in_ok-base.base (with_units c.store_arguments.new.space c.open_frame.new.units) opened.says
    (rw (← opened.learns, ← c.as_slice.ensures) (c.in_ok-store_arguments.ensures.stores c.open_frame.new.units))

use Rattle.std.proofs.Common.{◌≡◌, refl}
use Rattle.std.proofs.lemmas.Result.{err_from_is_err_and}
use Rattle.css_base.specs.declared.ending.Stop.TheVariants as stops
use Rattle.css_base.specs.declared.ending.FaultKind.TheVariants.{DivideByZero}
use Rattle.css_semantics.specs.Units.{with_units, metered, spending}
use Rattle.css_vm.proofs.Requests.{halts_divs, halts_rems}
use Rattle.css_vm.proofs.operations.perform.Goals as goal

pub returns-in_err-divide-in-Divs-clause-halts : goal.returns-in_err-divide-in-Divs-clause-halts
returns-in_err-divide-in-Divs-clause-halts g c = λ stop is units.
    let by_zero = c.in_err-divide-in-Divs.ensures.by_zero in
    let exit = err_from_is_err_and c.from_residual-in_err-divide-in-Divs.result c.from_residual-in_err-divide-in-Divs.ensures.1 in
    let fault : stop ≡ stops.Fault DivideByZero = cc (exit.1, exit.2, by_zero.0, is) in
    rw (fault, c.in-Divs.is, by_zero.1.2)
    (halts_divs (metered g.S.Space.reply) (spending g.S.Space.learn) c.args.base by_zero.1.0 by_zero.1.1 (with_units c.args.space.now units))

pub returns-in_err-divide-in-Rems-clause-halts : goal.returns-in_err-divide-in-Rems-clause-halts
returns-in_err-divide-in-Rems-clause-halts g c = λ stop is units.
    let by_zero = c.in_err-divide-in-Rems.ensures.by_zero in
    let exit = err_from_is_err_and c.from_residual-in_err-divide-in-Rems.result c.from_residual-in_err-divide-in-Rems.ensures.1 in
    let fault : stop ≡ stops.Fault DivideByZero = cc (exit.1, exit.2, by_zero.0, is) in
    rw (fault, c.in-Rems.is, by_zero.1.2)
    (halts_rems (metered g.S.Space.reply) (spending g.S.Space.learn) c.args.base by_zero.1.0 by_zero.1.1 (with_units c.args.space.now units))

pub returns-in_ok-load-in-Load32u-clause-performs :
    goal.returns-in_ok-load-in-Load32u-clause-performs
returns-in_ok-load-in-Load32u-clause-performs g c =
    (λ units. c.in_ok-load-in-Load32u.ensures.performs c.args.op (rw c.in-Load32u.is refl) c.args.base units)

pub returns-in_ok-load-in-Load32s-clause-performs :
    goal.returns-in_ok-load-in-Load32s-clause-performs
returns-in_ok-load-in-Load32s-clause-performs g c =
    (λ units. c.in_ok-load-in-Load32s.ensures.performs c.args.op (rw c.in-Load32s.is refl) c.args.base units)

pub returns-in_ok-store-in-Store32-clause-performs :
    goal.returns-in_ok-store-in-Store32-clause-performs
returns-in_ok-store-in-Store32-clause-performs g c =
    rw c.in-Store32.is (c.in_ok-store-in-Store32.ensures.performs c.args.base)

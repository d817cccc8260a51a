use Rattle.std.proofs.Common.{◌≡◌, [], All, Some, None, sym, subst}
use Rattle.css_yard.specs.Values.{AreValues}
use Rattle.css_yard.specs.Yards.{CanFetch, NoneStops, IfNotSettled}
use Rattle.css_yard.specs.Kept.{first_stop, values_at}
use Rattle.css_yard.specs.InOrders.{OrderYard, state_of, IsAnswer}
use Rattle.css_yard.proofs.Kept.{all_fetched_come, all_values, one_missing}
use Rattle.css_yard.proofs.Stops.{none_stops}
use Rattle.css_yard.proofs.Refusals.{closed_is}
use Rattle.css_vm.specs.Code.{code_of}
use Rattle.css_yard.proofs.in_order.InOrderYard.settle.Goals as goal

pub settle_from-requires : goal.settle_from-requires
settle_from-requires c =
    let code = code_of c.self.inside.code.now in
    let limits = c.self.inside.limits in
    let tasks = c.self.inside.tasks.items in
    let can = subst (λ (y : OrderYard). All (CanFetch y.code y.state.submits) c.args.keep.now) (sym c.self.view_is) c.requires.may in
    let come = all_fetched_come code limits tasks c.self.invariant.done c.args.keep.now can in
    rw c.as_slice.ensures.value (λ missing. one_missing code limits tasks c.self.invariant.done [] c.args.keep.now come missing)

pub returns-in-Ok-clause-values : goal.returns-in-Ok-clause-values
returns-in-Ok-clause-values c =
    let code = code_of c.self.inside.code.now in
    let limits = c.self.inside.limits in
    let tasks = c.self.inside.tasks.items in
    let can = subst (λ (y : OrderYard). All (CanFetch y.code y.state.submits) c.args.keep.now) (sym c.self.view_is) c.requires.may in
    let come = all_fetched_come code limits tasks c.self.invariant.done c.args.keep.now can in
    let is : values_at tasks [] c.args.keep.now ≡ Some c.in-Ok.values.items = rw (← c.as_slice.ensures.value) c.in-Ok.ensures.values in
    subst (λ (y : OrderYard). AreValues y.code y.limits.task_units y.state.submits [] c.args.keep.now c.in-Ok.values.items) c.self.view_is
    (all_values code limits tasks c.self.invariant.done [] c.args.keep.now c.in-Ok.values.items come is)

pub returns-in-Ok-clause-none_stops : goal.returns-in-Ok-clause-none_stops
returns-in-Ok-clause-none_stops c =
    let tasks = c.self.inside.tasks.items in
    let none : first_stop tasks ≡ None = rw (← c.as_slice.ensures.value) c.in-Ok.ensures.none in
    subst (λ (y : OrderYard). NoneStops y.code y.limits.task_units y.state.submits) c.self.view_is
    (none_stops (code_of c.self.inside.code.now) c.self.inside.limits tasks c.self.invariant.done none)

pub returns-in-Err-clause-refused : goal.returns-in-Err-clause-refused
returns-in-Err-clause-refused c =
    let tasks = c.self.inside.tasks.items in
    let notes = c.self.inside.notes.items in
    let answer : IsAnswer tasks c.in-Err.answer = rw (← c.as_slice.ensures.value) c.in-Err.ensures.answer in
    let closed = closed_is (code_of c.self.inside.code.now) c.self.inside.limits tasks c.self.invariant.done notes c.self.inside.standing c.in-Err.answer answer in
    subst (λ (y : OrderYard). IfNotSettled y.code y.limits.task_units y.state (state_of tasks notes c.closed-self-inside.result) c.in-Err.answer) c.self.view_is
    (rw c.closed-self-inside.ensures closed)

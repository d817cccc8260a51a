use Rattle.std.proofs.Common.{◌≡◌, [], Some, sym, subst}
use Rattle.css_yard.specs.Values.{IsValue}
use Rattle.css_yard.specs.Yards.{CanFetch, IfRefused}
use Rattle.css_yard.specs.Kept.{value_at}
use Rattle.css_yard.specs.InOrders.{OrderYard, state_of, IsAnswer}
use Rattle.css_yard.proofs.Kept.{fetched_value, missing_fetched}
use Rattle.css_yard.proofs.Refusals.{refused_is}
use Rattle.css_vm.specs.Code.{code_of}
use Rattle.css_yard.proofs.in_order.InOrderYard.fetch.Goals as goal

pub fetch_from-requires : goal.fetch_from-requires
fetch_from-requires c =
    let tasks = c.self.inside.tasks.items in
    let can = subst (λ (y : OrderYard). CanFetch y.code y.state.submits c.args.version) (sym c.self.view_is) c.requires.may in
    rw c.as_slice.ensures.value (λ missing. missing_fetched (code_of c.self.inside.code.now) c.self.inside.limits tasks c.self.invariant.done c.args.version can missing)

pub returns-in-Ok-clause-value : goal.returns-in-Ok-clause-value
returns-in-Ok-clause-value c =
    let tasks = c.self.inside.tasks.items in
    let can = subst (λ (y : OrderYard). CanFetch y.code y.state.submits c.args.version) (sym c.self.view_is) c.requires.may in
    let is : value_at tasks [] c.args.version ≡ Some c.in-Ok.value = rw (← c.as_slice.ensures.value) c.in-Ok.ensures.value in
    subst (λ (y : OrderYard). IsValue y.code y.limits.task_units y.state.submits [] c.args.version c.in-Ok.value) c.self.view_is
    (fetched_value (code_of c.self.inside.code.now) c.self.inside.limits tasks c.self.invariant.done c.args.version c.in-Ok.value can is)

pub returns-in-Err-clause-refused : goal.returns-in-Err-clause-refused
returns-in-Err-clause-refused c =
    let tasks = c.self.inside.tasks.items in
    let notes = c.self.inside.notes.items in
    let answer : IsAnswer tasks c.in-Err.answer = rw (← c.as_slice.ensures.value) c.in-Err.ensures.answer in
    let refused = refused_is (code_of c.self.inside.code.now) c.self.inside.limits tasks c.self.invariant.done notes c.self.inside.standing c.in-Err.answer answer in
    subst (λ (y : OrderYard). IfRefused y.code y.limits.task_units y.state (state_of tasks notes c.refused-self-inside.result) c.in-Err.answer) c.self.view_is
    (rw c.refused-self-inside.ensures refused)

use Rattle.std.proofs.Common.{◌≡◌, ◌∷◌, ap, ◌∙◌}
use Rattle.std.proofs.lemmas.Result.{err_from_is_err_and}
use Rattle.css_semantics.specs.Units.{with_units, metered, spending}
use Rattle.css_vm.proofs.Requests.{performs_store, halts_store}
use Rattle.css_vm.proofs.operations.store.Goals as goal

pub returns-in_err-store-clause-halts : goal.returns-in_err-store-clause-halts
returns-in_err-store-clause-halts g c =
    let refused = c.in_err-store.ensures in
    let exit = err_from_is_err_and c.from_residual.result c.from_residual.ensures.1 in
    let v = c.pop-value.result in
    let stack : c.args.stack.now.own ≡ v ∷ c.top.result ∷ c.top.ensures.0 = c.pop-value.ensures.own ∙ ap (λ below. v ∷ below) c.top.ensures.1 in
    rw (exit.1, stack)
    (λ base units. halts_store (metered g.S.Space.reply) (spending g.S.Space.learn) base c.top.result c.top.ensures.0 (with_units c.args.space.now units) v exit.0 (rw exit.2 refused.refuses))

pub returns-clause-performs : goal.returns-clause-performs
returns-clause-performs g c =
    let stored = c.in_ok-store.ensures in
    let v = c.pop-value.result in
    let below = c.top.ensures.1 in
    let after = c.set_top.ensures in
    let stack : c.args.stack.now.own ≡ v ∷ c.top.result ∷ c.top.ensures.0 = c.pop-value.ensures.own ∙ ap (λ below. v ∷ below) below in
    let left : c.set_top.new.self.own ≡ v ∷ c.top.ensures.0 = cc (below, after.own.2, after.own.3) in
    rw (stack, left)
    (λ base units. performs_store (metered g.S.Space.reply) (spending g.S.Space.learn) base c.top.result c.top.ensures.0 (with_units c.args.space.now units) v (with_units c.store.new.self units) stored.says.0 stored.says.1 (ap (λ s. with_units s units) stored.learns))

pub returns-clause-place : goal.returns-clause-place
returns-clause-place g c = ap g.S.Space.place c.in_ok-store.ensures.learns ∙ g.S.Space.place_moves.stores c.args.space.now _ _

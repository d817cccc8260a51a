use Rattle.std.proofs.Common.{◌≡◌, ◌∷◌, ap, ◌∙◌}
use Rattle.std.proofs.lemmas.Result.{err_from_is_err_and}
use Rattle.css_vm.specs.Cells.{narrowed}
use Rattle.css_semantics.specs.Units.{with_units, metered, spending}
use Rattle.css_vm.proofs.Requests.{performs_load, halts_load}
use Rattle.css_vm.proofs.operations.load.Goals as goal

pub returns-in_err-value-clause-halts : goal.returns-in_err-value-clause-halts
returns-in_err-value-clause-halts g c =
    let refused = c.in_err-value.ensures in
    let exit = err_from_is_err_and c.from_residual.result c.from_residual.ensures.1 in
    rw (exit.1, c.top.ensures.1)
    (λ op is base units. halts_load (metered g.S.Space.reply) (spending g.S.Space.learn) base c.top.result c.top.ensures.0 (with_units c.args.space.now units) op c.args.to is exit.0 (rw exit.2 refused.refuses))

pub returns-clause-performs : goal.returns-clause-performs
returns-clause-performs g c =
    let loaded = c.in_ok-value.ensures in
    let stack = c.top.ensures.1 in
    let after = c.set_top.ensures in
    let left : c.set_top.new.self.own ≡ narrowed c.args.to c.in_ok-value.value ∷ c.top.ensures.0 = cc (c.narrow.ensures, stack, after.own.2, after.own.3) in
    rw (stack, left)
    (λ op is base units. performs_load (metered g.S.Space.reply) (spending g.S.Space.learn) base c.top.result c.top.ensures.0 (with_units c.args.space.now units) (with_units c.load.new.self units) op c.args.to is c.in_ok-value.value loaded.says (ap (λ s. with_units s units) loaded.learns))

pub returns-clause-place : goal.returns-clause-place
returns-clause-place g c = ap g.S.Space.place c.in_ok-value.ensures.learns ∙ g.S.Space.place_moves.loads c.args.space.now _ _

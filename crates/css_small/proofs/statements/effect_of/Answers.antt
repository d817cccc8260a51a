use Rattle.std.proofs.Common.{◌≡◌, sym, ap, ◌∙◌, arith}
use Rattle.std.proofs.lemmas.Result.{IfOk-weaker}
use Rattle.css_tree.specs.Shapes as shapes
use Rattle.css_small.specs.Trees.{effect_of, call_of}
use Rattle.css_small.proofs.Calls.{with_one, without_one}
use Rattle.css_small.proofs.Lists.{one_item}
use Rattle.css_small.proofs.statements.effect_of.Goals as goal

-- the call that the tree is
called : (c : goal.After-call_of) → effect_of c.args.names.now c.args.line (shapes.expression c.args.tree.now)
    ≡ call_of c.args.names.now c.args.line c.as_slice.result.now (shapes.expression c.index.result.now)
called c =
    let all = one_item c.in-Call.arguments.items c.index.result.now (omega arith) (omega arith) c.index.ensures in
    ap (λ t. effect_of c.args.names.now c.args.line (shapes.expression t)) c.in-Call.is
    ∙ with_one c.args.names.now c.args.line c.in-Call.line c.in-Call.name c.in-Call.arguments c.index.result.now all
    ∙ ap (λ name. call_of c.args.names.now c.args.line name (shapes.expression c.index.result.now)) (sym c.as_slice.ensures)

pub returns-else-len-ne1-clause-ok : goal.returns-else-len-ne1-clause-ok
returns-else-len-ne1-clause-ok c = IfOk-weaker c.call_of.result _ _ (λ s is. called c ∙ is) c.call_of.ensures.ok

pub returns-else-len-ne1-clause-not_small : goal.returns-else-len-ne1-clause-not_small
returns-else-len-ne1-clause-not_small c = λ why. called c ∙ c.call_of.ensures.not_small why

pub returns-then-len-ne1-clause-not_small : goal.returns-then-len-ne1-clause-not_small
returns-then-len-ne1-clause-not_small c = λ why.
    ap (λ t. effect_of c.args.names.now c.args.line (shapes.expression t)) c.in-Call.is
    ∙ without_one c.args.names.now c.args.line c.in-Call.line c.in-Call.name c.in-Call.arguments (λ one. omega arith)

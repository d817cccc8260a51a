use Rattle.std.proofs.Common.{◌≡◌, Some, map, ◌+◌, ◌<◌, ◌≤◌, refl, sym, ap, ◌∙◌, arith}
use Rattle.std.proofs.lemmas.Bool.{le-leb}
use Rattle.css_tree.specs.Syntax.{Call}
use Rattle.css_tree.specs.Shapes.{expression}
use Rattle.css_tree.specs.Heights.{height}
use Rattle.css_pexpr.specs.Arguments.{in_order}
use Rattle.css_pexpr.specs.Frames.{call_of, called}
use Rattle.css_pexpr.specs.Shapes.{node, arguments}
use Rattle.css_pexpr.proofs.Caps.{capped_low}
use Rattle.css_pexpr.proofs.ArgumentLists.{expression-Call}
use Rattle.css_pexpr.proofs.call.called.Goals as goal

pub invariant_of-result : goal.invariant_of-result
invariant_of-result c =
    let whole = ap height (expression-Call c.args.line c.in_ok-name.name c.in-Some.given.all) in
    let levels = c.in-Some.given.levels_are in
    record { levels_are = omega arith }

pub returns : goal.returns
returns c =
    let es = map expression c.in-Some.given.all.items in
    let levels = c.in-Some.given.levels_are in
    let named = c.in_ok-name.ensures.found in
    let low = c.if-given-most.false in
    ap Some (expression-Call c.args.line c.in_ok-name.name c.in-Some.given.all)
    ∙ sym
    (ap (λ g. called c.args.most c.args.line (node c.args.callee) (arguments g)) c.in-Some.is
    ∙ ap (λ k. called c.args.most c.args.line (node k) (arguments (Some c.in-Some.given))) c.in-Some-callee.is
    ∙ ap (λ e. call_of c.args.most c.args.line es (Some e)) (ap expression (sym c.into_tree.ensures) ∙ named.1)
    ∙ capped_low c.args.most (Call c.args.line c.in_ok-name.name (in_order es)) (le-leb (height (Call c.args.line c.in_ok-name.name (in_order es))) c.args.most (omega arith)))

use Rattle.std.proofs.Common.{◌≡◌, ◌+◌, ◌++◌, All, ◌∷◌, map, drop, sym, ap, ◌∙◌, subst}
use Rattle.std.proofs.lemmas.List.{drop_more}
use Rattle.std.proofs.lemmas.List.Elements.{All-head, All-tail}
use Rattle.css_small.specs.Tree.{Function, function}
use Rattle.css_small.specs.Numbers.{IsNumbered}
use Rattle.css_vm.specs.Code.{routine}
use Rattle.css_small_code.specs.Code.{function_code}
use Rattle.css_small_code.proofs.Made.{one_more}
use Rattle.css_small_code.proofs.maker.functions_of.Goals as goal

abbrev Meets : Function → Type 0
Meets f = (f.parameters ≡ 1) × IsNumbered 0 f

pub function_of-requires-clause-pointer : goal.function_of-requires-clause-pointer
function_of-requires-clause-pointer c =
    let tree = c.tree-item.result in
    let rest = drop (c.loop-tree.tree-index + 1) c.args.trees.now in
    let left = drop_more c.args.trees.now c.loop-tree.tree-index tree c.loop-tree-test.true ∙ ap (λ x. x ∷ rest) (sym c.tree-item.is) in
    (All-head Meets (function tree) (map function rest) (subst (λ l. All Meets (map function l)) left c.loop-tree.invariant.0)).0

pub function_of-requires-clause-numbers : goal.function_of-requires-clause-numbers
function_of-requires-clause-numbers c =
    let tree = c.tree-item.result in
    let rest = drop (c.loop-tree.tree-index + 1) c.args.trees.now in
    let left = drop_more c.args.trees.now c.loop-tree.tree-index tree c.loop-tree-test.true ∙ ap (λ x. x ∷ rest) (sym c.tree-item.is) in
    (All-head Meets (function tree) (map function rest) (subst (λ l. All Meets (map function l)) left c.loop-tree.invariant.0)).1

pub loop-tree-preserved : goal.loop-tree-preserved
loop-tree-preserved c =
    let tree = c.tree-item.result in
    let rest = drop (c.loop-tree.tree-index + 1) c.args.trees.now in
    let left = drop_more c.args.trees.now c.loop-tree.tree-index tree c.loop-tree-test.true ∙ ap (λ x. x ∷ rest) (sym c.tree-item.is) in
    let all = map function_code (map function c.args.trees.now) in
    let before = subst (λ l. map routine c.loop-tree.functions.items ++ map function_code (map function l) ≡ all) left c.loop-tree.invariant.1 in
    (All-tail Meets (function tree) (map function rest) (subst (λ l. All Meets (map function l)) left c.loop-tree.invariant.0), one_more c.loop-tree.functions.items c.push.new.self.items c.in_ok-function_of.field-0 tree rest all c.in_ok-push.ensures.items c.in_ok-function_of.ensures before)

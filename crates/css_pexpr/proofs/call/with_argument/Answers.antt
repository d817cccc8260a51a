use Rattle.std.proofs.Common.{◌≡◌, [], ◌∷◌, ◌++◌, map, refl, sym, ap, ◌∙◌, arith}
use Rattle.std.proofs.lemmas.List.{map-append}
use Rattle.css_tree.specs.Heights.{height, height_of_arguments}
use Rattle.css_tree.specs.Shapes.{expression}
use Rattle.css_pexpr.specs.Arguments.{in_order}
use Rattle.css_pexpr.proofs.ArgumentLists.{height-last}
use Rattle.css_pexpr.proofs.call.with_argument.Goals as goal

pub invariant_of-result : goal.invariant_of-result
invariant_of-result c =
    let all = c.in-Some.before.all.items in
    let next = c.into_tree.result in
    let same = ap (λ e. height (expression e)) c.into_tree.ensures in
    let items = ap (λ l. height_of_arguments (in_order (map expression l))) c.in_ok-push.ensures.items
    ∙ ap (λ l. height_of_arguments (in_order l)) (map-append expression all (next ∷ [])) ∙ height-last (map expression all) (expression next) in
    let before = c.in-Some.before.levels_are in
    let last = c.in-Some-next.next.levels_are in
    let most = c.max-levels.ensures in
    record { levels_are = omega arith }

use Rattle.std.proofs.Common.{◌≡◌, [], ◌∷◌, ◌++◌, map, rules, sym, ap, ◌∙◌}
use Rattle.css_tree.specs.Shapes.{item}
use Rattle.css_small.specs.Trees.{program_behind}
use Rattle.css_small.proofs.Exits.{passed}
use Rattle.css_small.proofs.ProgramItems.{on, no_main, last_apart}
use Rattle.css_small.proofs.functions.program_of.Goals as goal

pub returns-in_err-main-clause-not_small : goal.returns-in_err-main-clause-not_small
returns-in_err-main-clause-not_small c = λ why.
    let items = c.args.tree.now.items.items in
    let others = c.in-Some.others.now in
    let last = c.in-Some.last.now in
    let names = c.functions_of.new.names in
    let none = c.in_err-main.ensures.not_small (passed c.from_residual-in_err-main.result c.in_err-main.field-0.0 c.from_residual-in_err-main.ensures.1 why) in
    let is : items ≡ others ++ last ∷ [] = search rules in
    last_apart items others last is
    ∙ ap (λ n. program_behind n (map item others ++ item last ∷ [])) (sym c.new-names.ensures)
    ∙ c.in_ok-functions.ensures.ok (item last) ∙ ap (on c.in_ok-functions.functions.items) (no_main names (item last) none)

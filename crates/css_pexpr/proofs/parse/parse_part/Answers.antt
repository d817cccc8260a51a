use Rattle.std.proofs.Common.{◌≡◌, drop, subst, ◌∙◌, ap}
use Rattle.std.proofs.lemmas.List.{take_rest}
use Rattle.std.proofs.lemmas.Result.{err_from_is_err_and}
use Rattle.css_base.specs.Tokens.{lexemes}
use Rattle.css_tree.specs.Shapes.{expression}
use Rattle.css_pexpr.specs.Longest.{IsPart, IfNotRead}
use Rattle.css_pexpr.proofs.Found.{rest_from, read_from}
use Rattle.css_pexpr.proofs.parse.parse_part.Goals as goal

pub returns-in_err-tree-clause-refused : goal.returns-in_err-tree-clause-refused
returns-in_err-tree-clause-refused c =
    let tokens = c.args.tokens.now in
    let rest = ap lexemes (take_rest tokens c.min-start.result) ∙ rest_from tokens c.args.from c.min-start.result c.min-start.ensures in
    let p = err_from_is_err_and c.from_residual.result c.from_residual.ensures.1 in
    let refused : IfNotRead c.args.scope c.args.level (drop c.args.from (lexemes tokens)) c.in_err-tree.field-0.0 =
    subst (λ l. IfNotRead c.args.scope c.args.level l c.in_err-tree.field-0.0) rest c.in_err-tree.ensures.refused in
    rw (p.1, p.2) refused

pub returns-clause-ok : goal.returns-clause-ok
returns-clause-ok c =
    let tokens = c.args.tokens.now in
    let x = expression c.in_ok-tree.tree in
    let count = c.in_ok-tree.count in
    let read : IsPart c.args.scope c.args.level (lexemes (drop c.min-start.result tokens)) x count =
    subst (λ l. IsPart c.args.scope c.args.level (lexemes l) x count) (take_rest tokens c.min-start.result) c.in_ok-tree.ensures.ok in
    read_from c.args.scope c.args.level tokens c.args.from c.min-start.result count x c.min-start.ensures read

use Rattle.std.proofs.Common.{take, [], sym, subst}
use Rattle.css_base.specs.Tokens.{lexemes}
use Rattle.css_tree.specs.declared.scope.Scope.TheVariants as scopes
use Rattle.css_tree.specs.Syntax as tree
use Rattle.css_tree.specs.Shapes.{expression}
use Rattle.css_pexpr.specs.declared.level.Level.TheVariants as levels
use Rattle.css_parse.specs.Readings.{ReadsExpression, ReadsName}
use Rattle.css_parse.proofs.OneDeclaration.{one_read}
use Rattle.css_pragma.proofs.Exits.{passed}
use Rattle.css_pragma.proofs.Names.{name_read, name_alone}
use Rattle.css_pragma.proofs.expression.name.Goals as goal

pub returns-in_err-value-clause-not_spelled : goal.returns-in_err-value-clause-not_spelled
returns-in_err-value-clause-not_spelled c = λ why name rest r.
    let alone = name_alone c.args.tokens.now r in
    c.in_err-value.ensures.not_spelled (passed c.from_residual.result c.in_err-value.field-0.0 c.from_residual.ensures.1 why) (tree.Name alone.0 name) []
    (subst (λ l. ReadsExpression scopes.File levels.Cond 500 (lexemes l) (tree.Name alone.0 name) []) (sym c.split_at.ensures.front) alone.1)

pub returns-in-Some-clause-ok : goal.returns-in-Some-clause-ok
returns-in-Some-clause-ok c =
    let ts = c.args.tokens.now in
    let e = expression c.in_ok-value.value in
    let rest = lexemes c.in_ok-value.field-0-1.now in
    let read : ReadsExpression scopes.File levels.Cond 500 (lexemes (take 1 ts)) e rest = subst (λ l. ReadsExpression scopes.File levels.Cond 500 (lexemes l) e rest) c.split_at.ensures.front c.in_ok-value.ensures.ok in
    subst (λ l. ReadsName (lexemes ts) c.in-Some.name (lexemes l)) (sym c.split_at.ensures.back)
    (name_read ts c.in-Some.ensures.found.0 c.in-Some.name read c.in-Some.ensures.found.1)

pub returns-in-None-clause-not_spelled : goal.returns-in-None-clause-not_spelled
returns-in-None-clause-not_spelled c = λ why name rest r.
    let alone = name_alone c.args.tokens.now r in
    let read = subst (λ l. ReadsExpression scopes.File levels.Cond 500 (lexemes l) (tree.Name alone.0 name) []) (sym c.split_at.ensures.front) alone.1 in
    c.in-None.ensures.none alone.0 name (one_read c.in_ok-value.ensures.ok read).0

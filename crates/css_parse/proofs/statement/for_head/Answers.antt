use Rattle.std.specs.Option.{option_map}
use Rattle.css_base.specs.Tokens.{lexemes}
use Rattle.css_tree.specs.Shapes.{expression, for_start}
use Rattle.css_parse.proofs.Exits.{passed}
use Rattle.css_parse.proofs.NoStatement.{no_for_start, no_for_condition, no_for_step}
use Rattle.css_parse.proofs.statement.for_head.Goals as goal

pub returns-in_err-start-clause-not_spelled : goal.returns-in_err-start-clause-not_spelled
returns-in_err-start-clause-not_spelled c = λ why start condition step rest r.
    no_for_start c.in-Some.ensures.found (c.in_err-start.ensures.not_spelled (passed c.from_residual.result c.in_err-start.field-0.0 c.from_residual.ensures.1 why)) r

pub returns-in_err-condition-clause-not_spelled : goal.returns-in_err-condition-clause-not_spelled
returns-in_err-condition-clause-not_spelled c = λ why start condition step rest r.
    no_for_condition (for_start c.in_ok-start.start) (lexemes c.in_ok-start.second.now) c.in-Some.ensures.found c.in_ok-start.ensures.ok
    (c.in_err-condition.ensures.not_spelled (passed c.from_residual-in_err-condition.result c.in_err-condition.field-0.0 c.from_residual-in_err-condition.ensures.1 why)) r

pub returns-in_err-step-clause-not_spelled : goal.returns-in_err-step-clause-not_spelled
returns-in_err-step-clause-not_spelled c = λ why start condition step rest r.
    no_for_step (for_start c.in_ok-start.start) (lexemes c.in_ok-start.second.now) (option_map expression c.in_ok-condition.condition) (lexemes c.in_ok-condition.third.now)
    c.in-Some.ensures.found c.in_ok-start.ensures.ok c.in_ok-condition.ensures.ok
    (c.in_err-step.ensures.not_spelled (passed c.from_residual-in_err-step.result c.in_err-step.field-0.0 c.from_residual-in_err-step.ensures.1 why)) r

pub returns-in_default-clause-not_spelled : goal.returns-in_default-clause-not_spelled
returns-in_default-clause-not_spelled c = λ why start condition step rest h. c.in_default.ensures.none h.inside h.opens

use Rattle.css_parse.proofs.NoDeclaration.{no_condition_end}
use Rattle.css_parse.proofs.expression.condition.Goals as goal

pub returns-in_default-after_mark-clause-not_spelled : goal.returns-in_default-after_mark-clause-not_spelled
returns-in_default-after_mark-clause-not_spelled c = λ why e rest r.
    no_condition_end c.in-Some.ensures.found c.in_ok-value.ensures.ok c.in_default-after_mark.ensures.none r

pub returns-in_default-clause-not_spelled : goal.returns-in_default-clause-not_spelled
returns-in_default-clause-not_spelled c = λ why e rest r. c.in_default.ensures.none r.0 r.2

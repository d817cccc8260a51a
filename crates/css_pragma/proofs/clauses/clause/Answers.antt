use Rattle.css_base.specs.Tokens.{lexemes}
use Rattle.css_pragma.proofs.Exits.{passed}
use Rattle.css_pragma.proofs.AbsentParts.{no_clause_word, no_clause_arguments, no_open}
use Rattle.css_pragma.proofs.clauses.clause.Goals as goal

pub returns-in_default-direction-clause-not_spelled : goal.returns-in_default-direction-clause-not_spelled
returns-in_default-direction-clause-not_spelled c = λ why x rest r.
    no_clause_word (lexemes c.args.tokens.now) x rest c.in_default.ensures.none c.in_default-direction.ensures.none r

pub returns-in_default-after_mark-clause-not_spelled : goal.returns-in_default-after_mark-clause-not_spelled
returns-in_default-after_mark-clause-not_spelled c = λ why x rest r.
    no_clause_arguments (lexemes c.args.tokens.now) (lexemes c.in-Some-direction.behind.now) c.in-Some-direction.direction x rest c.in_default.ensures.none c.in-Some-direction.ensures.found
    (λ inside all next o read. c.in_default-after_mark.ensures.none inside o) r

pub returns-in_err-arguments-clause-not_spelled : goal.returns-in_err-arguments-clause-not_spelled
returns-in_err-arguments-clause-not_spelled c = λ why x rest r.
    no_clause_arguments (lexemes c.args.tokens.now) (lexemes c.in-Some-direction.behind.now) c.in-Some-direction.direction x rest c.in_default.ensures.none c.in-Some-direction.ensures.found
    (λ inside all next o read. no_open all next o c.in-Some-after_mark.ensures.found (c.in_err-arguments.ensures.not_spelled (passed c.from_residual.result c.in_err-arguments.field-0.0 c.from_residual.ensures.1 why) all next) read) r

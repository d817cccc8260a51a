use Rattle.std.proofs.Common.{subst}
use Rattle.css_base.specs.Tokens.{lexemes}
use Rattle.css_pragma.specs.Readings.{ReadsDirective}
use Rattle.css_pragma.proofs.Exits.{passed}
use Rattle.css_pragma.proofs.AbsentParts.{only_task}
use Rattle.css_pragma.proofs.spelled.spelled.Goals as goal

pub returns-in_err-clauses-in-BeforeFunction-clause-not_spelled : goal.returns-in_err-clauses-in-BeforeFunction-clause-not_spelled
returns-in_err-clauses-in-BeforeFunction-clause-not_spelled c = λ why d r.
    only_task c.args.line (lexemes c.args.words.now) d
    (c.in_err-clauses-in-BeforeFunction.ensures.not_spelled (passed c.from_residual.result c.in_err-clauses-in-BeforeFunction.field-0.0 c.from_residual.ensures.1 why))
    (subst (λ p. ReadsDirective p c.args.line (lexemes c.args.words.now) d) c.in-BeforeFunction.is r)

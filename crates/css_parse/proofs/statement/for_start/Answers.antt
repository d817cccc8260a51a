use Rattle.std.proofs.Common.{sym, ◌∙◌}
use Rattle.css_base.specs.Tokens.{lexemes}
use Rattle.css_parse.proofs.Exits.{passed, not_some}
use Rattle.css_parse.proofs.NoStatement.{no_start}
use Rattle.css_parse.proofs.statement.for_start.Goals as goal

pub returns-in_err-first-2-clause-not_spelled : goal.returns-in_err-first-2-clause-not_spelled
returns-in_err-first-2-clause-not_spelled c = λ why start rest r.
    no_start c.args.levels (lexemes c.args.tokens.now) start rest (sym c.next_specifier.ensures ∙ not_some c.next_specifier.result c.is_some.result c.is_some.ensures c.if-is_some.false)
    (c.in_err-first-2.ensures.not_spelled (passed c.from_residual-in_err-first-2.result c.in_err-first-2.field-0.0 c.from_residual-in_err-first-2.ensures.1 why)) r

use Rattle.std.proofs.Common.{ap}
use Rattle.std.proofs.lemmas.List.{nil_from_length}
use Rattle.css_base.specs.Tokens.{lexeme, lexemes}
use Rattle.css_parse.proofs.NoStatement.{mark_next, no_mark_next}
use Rattle.css_parse.proofs.statement.is_directive.Goals as goal

pub returns-in-Some : goal.returns-in-Some
returns-in-Some c = mark_next c.is_directive_kind.result (lexeme c.in-Some.first.now) (lexemes c.args.tokens.now) _ (ap lexemes c.in-Some.ensures.cases.0) c.is_directive_kind.ensures

pub returns-in-None : goal.returns-in-None
returns-in-None c = no_mark_next (lexemes c.args.tokens.now) (ap lexemes (nil_from_length c.args.tokens.now c.in-None.ensures.cases))

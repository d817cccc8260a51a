use Rattle.std.proofs.Common.{List}
use Rattle.css_base.specs.declared.direction.Direction.{Direction}
use Rattle.css_base.specs.declared.direction.Direction.TheVariants as directions
use Rattle.css_base.specs.Tokens.{Word, Lexeme, lexemes}
use Rattle.css_parse.specs.Fronts.{Next}
use Rattle.css_pragma.specs.Directives.{direction_text}
use Rattle.css_pragma.proofs.clauses.direction.Goals as goal

pub returns-in_err-rest-clause-none : goal.returns-in_err-rest-clause-none
returns-in_err-rest-clause-none c = rw c.from_residual.ensures by
  where
    by : (d : Direction) (rest : List Lexeme) → Next (Word (direction_text d)) (lexemes c.args.tokens.now) rest → ⊥
    by directions.In rest n = c.in_default.ensures.none rest n
    by directions.Out rest n = c.in_default-after_word.ensures.none rest n
    by directions.InOut rest n = c.in_err-rest.ensures.none rest n

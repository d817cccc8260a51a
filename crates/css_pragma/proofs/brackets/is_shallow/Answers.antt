use Rattle.std.proofs.Common.{ap}
use Rattle.std.proofs.lemmas.Bool.{false≢true}
use Rattle.css_base.specs.Tokens.{lexeme, lexemes}
use Rattle.css_parse.proofs.Nesting.{none_yet, one_more}
use Rattle.css_pragma.proofs.Depth.{not_shallow}
use Rattle.css_pragma.proofs.brackets.is_shallow.Goals as goal

pub loop-token-init : goal.loop-token-init
loop-token-init c = none_yet (lexemes c.args.tokens.now)

pub returns-then-count-gt-MOST_OPEN : goal.returns-then-count-gt-MOST_OPEN
returns-then-count-gt-MOST_OPEN c = (
  λ e. absurd (false≢true e),
  λ shallow. absurd (not_shallow (lexemes c.args.tokens.now) c.loop-token.count c.open_behind-count.result (lexeme c.in-Some.token.now) (lexemes c.loop-token.rest.now) (lexemes c.in-Some.behind.now)
      c.loop-token.invariant (ap lexemes c.in-Some.ensures.cases.0) c.open_behind-count.ensures c.if-count-gt-MOST_OPEN.true shallow),
)

pub loop-token-preserved : goal.loop-token-preserved
loop-token-preserved c =
    one_more (lexemes c.args.tokens.now) c.loop-token.count c.open_behind-count.result (lexeme c.in-Some.token.now) (lexemes c.loop-token.rest.now) (lexemes c.in-Some.behind.now)
    c.loop-token.invariant (ap lexemes c.in-Some.ensures.cases.0) c.open_behind-count.ensures c.if-count-gt-MOST_OPEN.false

use Rattle.std.proofs.Common.{ap}
use Rattle.css_base.specs.Tokens.{lexeme, lexemes}
use Rattle.css_parse.proofs.Nesting.{none_yet, one_more}
use Rattle.css_parse.proofs.brackets.too_deep.Goals as goal

pub loop-token-init : goal.loop-token-init
loop-token-init c = none_yet (lexemes c.args.tokens.now)

pub loop-token-preserved : goal.loop-token-preserved
loop-token-preserved c =
    one_more (lexemes c.args.tokens.now) c.loop-token.count c.open_behind-count.result (lexeme c.in-Some.token.now) (lexemes c.loop-token.rest.now) (lexemes c.in-Some.behind.now)
    c.loop-token.invariant (ap lexemes c.in-Some.ensures.cases.0) c.open_behind-count.ensures c.if-count-gt-MOST_OPEN.false

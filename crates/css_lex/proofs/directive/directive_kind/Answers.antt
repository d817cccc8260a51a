use Rattle.css_lex.proofs.DirectiveWords.{directive_is}
use Rattle.css_lex.proofs.directive.directive_kind.Goals as goal

pub returns : goal.returns
returns c = directive_is c.args.words

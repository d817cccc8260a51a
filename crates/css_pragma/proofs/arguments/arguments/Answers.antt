use Rattle.css_base.specs.Tokens.{lexemes}
use Rattle.css_pragma.proofs.AbsentParts.{no_arguments}
use Rattle.css_pragma.proofs.arguments.arguments.Goals as goal

pub returns-clause-not_spelled : goal.returns-clause-not_spelled
returns-clause-not_spelled c = λ why all rest r.
    no_arguments (lexemes c.args.tokens.now) all rest c.in_default.ensures.none (c.listed.ensures.not_spelled why) r

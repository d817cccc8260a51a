use Rattle.css_base.specs.Tokens.{lexemes}
use Rattle.css_parse.proofs.Exits.{passed}
use Rattle.css_parse.proofs.Initials.{none_of}
use Rattle.css_parse.proofs.NoItem.{front_some, front_declared, no_front_head}
use Rattle.css_parse.proofs.item.read_front.Goals as goal

pub returns-in_err-head-clause-not_spelled : goal.returns-in_err-head-clause-not_spelled
returns-in_err-head-clause-not_spelled c = λ why line declared words all name rest r.
    no_front_head c.in_ok-specifiers.ensures.ok
    (c.in_err-head.ensures.not_spelled (passed c.from_residual-in_err-head.result c.in_err-head.field-0.0 c.from_residual-in_err-head.ensures.1 why)) r

pub returns-in_default-clause-not_spelled : goal.returns-in_default-clause-not_spelled
returns-in_default-clause-not_spelled c = λ why line declared words all name rest r. front_some r (none_of c.args.tokens.now c.in_default.ensures.value)

pub returns-in_default-first-clause-not_spelled : goal.returns-in_default-first-clause-not_spelled
returns-in_default-first-clause-not_spelled c = λ why line declared words all name rest r.
    front_declared c.in_ok-specifiers.ensures.ok (none_of c.in_ok-specifiers.behind.now c.in_default-first.ensures.value) r

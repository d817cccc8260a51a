use Rattle.std.proofs.Common.{ap}
use Rattle.std.proofs.lemmas.Result.{IfOk-weaker}
use Rattle.css_base.specs.Tokens.{lexemes}
use Rattle.css_tree.specs.TokenParts.{first_line}
use Rattle.css_parse.proofs.Exits.{passed}
use Rattle.css_parse.proofs.Initials.{front_of, none_of}
use Rattle.css_parse.proofs.NoDeclaration.{declarator_some, no_declarator}
use Rattle.css_parse.proofs.declaration.declarator.Goals as goal

pub returns-in_default-clause-not_spelled : goal.returns-in_default-clause-not_spelled
returns-in_default-clause-not_spelled c = λ why d rest r. declarator_some r (none_of c.args.tokens.now c.in_default.ensures.value)

pub returns-clause-ok : goal.returns-clause-ok
returns-clause-ok c =
    let f = front_of c.args.tokens.now c.in-Some.first.now c.in-Some.ensures.value in
    IfOk-weaker c.declarator_behind.result _ _ (λ x h. h (lexemes c.args.tokens.now) (ap (λ l. first_line (lexemes l)) f.1) c.in_ok-head.ensures.ok) c.declarator_behind.ensures.ok

pub returns-clause-not_spelled : goal.returns-clause-not_spelled
returns-clause-not_spelled c = λ why d rest r. no_declarator c.in_ok-head.ensures.ok (c.declarator_behind.ensures.not_spelled why) r

pub returns-in_err-head-clause-not_spelled : goal.returns-in_err-head-clause-not_spelled
returns-in_err-head-clause-not_spelled c = λ why d rest r.
    c.in_err-head.ensures.not_spelled (passed c.from_residual.result c.in_err-head.field-0.0 c.from_residual.ensures.1 why) d.stars d.name r.behind r.head

use Rattle.std.proofs.Common.{◌<◌, ap, arith}
use Rattle.css_base.specs.Tokens.{lexemes}
use Rattle.css_tree.specs.TokenParts.{first_line}
use Rattle.css_parse.proofs.Initials.{front_of, none_of}
use Rattle.css_parse.proofs.Exits.{passed}
use Rattle.css_parse.proofs.NoDeclaration.{specifiers_some, no_declaration, no_declaration_end}
use Rattle.css_parse.proofs.declaration.declaration.Goals as goal

pub returns-in_err-specifiers-clause-not_spelled : goal.returns-in_err-specifiers-clause-not_spelled
returns-in_err-specifiers-clause-not_spelled c = λ why d rest r.
    c.in_err-specifiers.ensures.not_spelled (passed c.from_residual.result c.in_err-specifiers.field-0.0 c.from_residual.ensures.1 why) d.specifiers r.behind r.reads_specifiers

pub returns-in_err-next-clause-not_spelled : goal.returns-in_err-next-clause-not_spelled
returns-in_err-next-clause-not_spelled c = λ why d rest r.
    no_declaration c.in_ok-specifiers.ensures.ok
    (c.in_err-next.ensures.not_spelled (passed c.from_residual-in_err-next.result c.in_err-next.field-0.0 c.from_residual-in_err-next.ensures.1 why)) r

pub returns-in_err-declarators-clause-not_spelled : goal.returns-in_err-declarators-clause-not_spelled
returns-in_err-declarators-clause-not_spelled c = λ why d rest r.
    no_declaration_end c.in_ok-specifiers.ensures.ok c.in_ok-next.ensures.ok
    (c.in_err-declarators.ensures.not_spelled (passed c.from_residual-in_err-declarators.result c.in_err-declarators.field-0.0 c.from_residual-in_err-declarators.ensures.1 why)) r

pub returns-in_default-clause-not_spelled : goal.returns-in_default-clause-not_spelled
returns-in_default-clause-not_spelled c = λ why d rest r. specifiers_some r.reads_specifiers (none_of c.args.tokens.now c.in_default.ensures.value)

pub returns-clause-ok : goal.returns-clause-ok
returns-clause-ok c =
    let f = front_of c.args.tokens.now c.in-Some.first.now c.in-Some.ensures.value in
    record {
      behind = lexemes c.in_ok-specifiers.behind.now;
      some = omega arith;
      line_is = ap (λ l. first_line (lexemes l)) f.1;
      reads_specifiers = c.in_ok-specifiers.ensures.ok;
      reads_declarators = c.in_ok-declarators.ensures.ok (lexemes c.in_ok-specifiers.behind.now) c.in_ok-next.ensures.ok;
    }

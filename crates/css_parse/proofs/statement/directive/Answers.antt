use Rattle.std.proofs.Common.{◌≡◌, sym, ap, ◌∙◌}
use Rattle.css_base.specs.Tokens.{Directive, kind_of, lexeme, lexemes}
use Rattle.css_tree.specs.TokenParts.{first_line}
use Rattle.css_tree.specs.Shapes.{in_row}
use Rattle.css_parse.proofs.DirectiveWords.{kind-Directive}
use Rattle.css_parse.proofs.statement.directive.Goals as goal

pub returns-clause-ok : goal.returns-clause-ok
returns-clause-ok c = record {
  next = record {
    token = lexeme c.in-Some.first.now;
    parts = ap lexemes c.in-Some.ensures.cases.0;
    is = ap kind_of c.in-Directive.is ∙ kind-Directive c.in-Directive.words ∙ sym (ap (λ l. Directive (in_row l)) (c.in_ok-words.ensures.ok ∙ ap lexemes c.as_slice.ensures.value));
  };
  line_is = ap (λ l. first_line (lexemes l)) c.in-Some.ensures.cases.0;
}

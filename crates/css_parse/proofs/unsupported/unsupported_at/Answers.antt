use Rattle.std.proofs.Common.{◌≡◌, refl, sym, ap, ◌∙◌}
use Rattle.css_base.specs.Tokens.{At, lexeme, lexemes, kind_of}
use Rattle.css_tree.specs.Shapes.{in_row}
use Rattle.css_parse.specs.Unsupported.{words_lines, token_lines, first}
use Rattle.css_parse.proofs.DirectiveWords.{kind-Directive}
use Rattle.css_parse.proofs.unsupported.unsupported_at.Goals as goal

pub returns-in-Directive : goal.returns-in-Directive
returns-in-Directive c =
    let t = c.args.token.now in
    c.unsupported_word.ensures ∙ ap (λ l. first (words_lines (in_row (lexemes l)))) c.as_slice.ensures.value
    ∙ sym (ap (λ k. first (token_lines (At k t.line t.place t.end))) (ap kind_of c.in-Directive.is ∙ kind-Directive c.in-Directive.words))

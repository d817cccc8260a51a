use Rattle.std.proofs.Common.{◌∙◌, sym, ap, refl, option_map}
use Rattle.std.specs.Prelude.{slice_range}
use Rattle.css_base.specs.Tokens.{kind_of, lexeme}
use Rattle.css_lexemes.specs.Values.{kind_of_lexeme}
use Rattle.css_lex.proofs.Spelled.{no_word, one_word}
use Rattle.css_lex.proofs.words.word_in.Goals as goal

pub returns-in_default-2 : goal.returns-in_default-2
returns-in_default-2 c =
    let line = c.args.line.now in
    no_word c.args.numbered.now.text.now line.source.now c.args.shape c.in-Lexeme.class c.args.from c.args.to c.in-Lexeme.is
    (ap (λ b. kind_of_lexeme c.in-Lexeme.class (slice_range b c.args.from c.args.to)) (sym line.same) ∙ (sym c.in_ok-kind.ensures ∙ ap (option_map kind_of) c.in_default-2.is))

pub returns : goal.returns
returns c =
    let line = c.args.line.now in
    one_word c.args.numbered.now.text.now line.source.now c.args.shape c.in-Lexeme.class c.args.from c.args.to _ _ (kind_of c.in-Some.kind) (lexeme c.token.result)
    c.requires.some c.requires.to c.in-Lexeme.is
    (ap (λ b. kind_of_lexeme c.in-Lexeme.class (slice_range b c.args.from c.args.to)) (sym line.same) ∙ (sym c.in_ok-kind.ensures ∙ ap (option_map kind_of) c.in-Some.is))
    refl refl c.token.ensures

use Rattle.std.proofs.Common.{◌∙◌, sym, ap}
use Rattle.std.proofs.lemmas.Result.{on_ok_weaker}
use Rattle.std.proofs.lemmas.List.{map_push}
use Rattle.css_base.specs.Tokens.{lexeme, lexemes}
use Rattle.css_lex.specs.Joining.{joined_behind}
use Rattle.css_lex.proofs.Strings.{behind_last}
use Rattle.css_lex.proofs.joining.push_joined.Goals as goal

pub returns : goal.returns
returns c =
    let token = lexeme c.args.token in
    let last = c.in-Some.last in
    let done = c.pop.new.self.items in
    on_ok_weaker c.push_two.result
    (λ h. h ∙ sym (ap (λ ts. joined_behind ts token) (ap lexemes c.in-Some.ensures.items ∙ map_push lexeme done last) ∙ behind_last (lexemes done) (lexeme last) token))
    c.push_two.ensures

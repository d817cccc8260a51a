use Rattle.std.proofs.Common.{◌≡◌, ℕ, ◌+◌, ◌<◌, List, [], ◌∷◌, ◌++◌, length, get_or, take, refl, sym, ap, ap₂, ◌∙◌}
use Rattle.std.proofs.lemmas.List.{map-append, take-map, take_more}
use Rattle.css_base.specs.declared.token.Token.{Token}
use Rattle.css_base.specs.Tokens.{Directive, Lexeme, At, kind_of, lexeme, lexemes}
use Rattle.css_tree.specs.Shapes.{in_row}
use Rattle.css_parse.proofs.DirectiveWords.{kind-Directive}
use Rattle.css_parse.proofs.copies.+copies.Goals as goal

copied : (ts : List Token) (i : ℕ) (t copy : Token) (done new : List Token) → i < length ts → t ≡ get_or ts i t → lexemes done ≡ take i (lexemes ts) → new ≡ done ++ copy ∷ [] → lexeme copy ≡ lexeme t
    → lexemes new ≡ take (i + 1) (lexemes ts)
copied ts i t copy done new h is so e same =
    ap lexemes e ∙ map-append lexeme done (copy ∷ []) ∙ ap₂ (λ (x : List Lexeme) (y : Lexeme). x ++ y ∷ []) (so ∙ take-map lexeme i ts) (same ∙ ap lexeme is)
    ∙ sym (map-append lexeme (take i ts) (get_or ts i t ∷ [])) ∙ ap lexemes (sym (take_more ts i t h)) ∙ sym (take-map lexeme (i + 1) ts)

pub copied_kind-returns-in_ok-copied_tokens-in-Directive-clause-ok : goal.copied_kind-returns-in_ok-copied_tokens-in-Directive-clause-ok
copied_kind-returns-in_ok-copied_tokens-in-Directive-clause-ok t c =
    kind-Directive c.in_ok-copied_tokens-in-Directive.field-0
    ∙ ap (λ l. Directive (in_row l)) (c.in_ok-copied_tokens-in-Directive.ensures.ok ∙ ap lexemes c.as_slice-in-Directive.ensures.value)
    ∙ sym (ap kind_of c.in-Directive.is ∙ kind-Directive c.in-Directive.words)

pub copied_tokens-loop-token-preserved : goal.copied_tokens-loop-token-preserved
copied_tokens-loop-token-preserved t c =
    let x = c.token-item.result in
    copied c.args.tokens.now c.loop-token.token-index x _ c.loop-token.all.items c.add.new.parts.items c.loop-token-test.true c.token-item.is c.loop-token.invariant c.in_ok-add.ensures.ok
    (ap (λ k. At k x.line x.place x.end) c.in_ok-kind.ensures.ok)

use Rattle.std.proofs.Common.{◌∙◌, ◌++◌, ◌∷◌, [], sym, ap, subst, length, arith, append_assoc, All, List, map}
use Rattle.std.specs.Vec.Iter.{into_iter_items}
use Rattle.std.proofs.lemmas.List.{map_push}
use Rattle.std.proofs.lemmas.List.Elements.{All-tail}
use Rattle.css_base.specs.declared.token.Token.{Token}
use Rattle.css_base.specs.Tokens.{lexeme, lexemes}
use Rattle.css_macros.specs.Macros.{IsNoDirective}
use Rattle.css_macros.specs.MacroTokens.{plain_kind, plain_kinds}
use Rattle.css_lex.specs.HashLines.{kind_at}
use Rattle.css_lex.proofs.definition.macro_tokens.Goals as goal

pub loop-word-preserved : goal.loop-word-preserved
loop-word-preserved c =
    let word = lexeme c.in-Some.word in
    let rest = lexemes (into_iter_items c.next.new.self) in
    let h = c.loop-word.invariant in
    let all : All (λ w. IsNoDirective (kind_at w)) (word ∷ rest) =
    subst (λ (items : List Token). All (λ w. IsNoDirective (kind_at w)) (lexemes items)) c.in-Some.ensures.items h.plain in
    record {
      plain = All-tail (λ w. IsNoDirective (kind_at w)) word rest all;
      same =
          h.same
          ∙ (ap (λ (items : List Token). plain_kinds c.loop-word.tokens.items ++ map kind_at (lexemes items)) c.in-Some.ensures.items
          ∙ (sym (append_assoc (plain_kinds c.loop-word.tokens.items) (kind_at word ∷ []) (map kind_at rest))
          ∙ ap (λ ks. ks ++ map kind_at rest)
          (sym (ap plain_kinds c.in_ok-push.ensures.items ∙ (map_push plain_kind c.loop-word.tokens.items c.new.result ∙ ap (λ k. plain_kinds c.loop-word.tokens.items ++ k ∷ []) c.new.ensures)))));
      size = let l = c.in-Some.ensures.len in let s = ap length c.in-Some.ensures.items in let z = h.size in omega (arith, l, z, s);
    }

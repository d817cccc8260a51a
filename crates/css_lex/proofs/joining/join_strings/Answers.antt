use Rattle.std.proofs.Common.{◌≡◌, ◌∙◌, length, arith, ap, subst, [], List}
use Rattle.std.proofs.lemmas.List.{nil_from_length}
use Rattle.std.specs.Vec.Iter.{into_iter_items}
use Rattle.css_base.specs.declared.token.Token.{Token}
use Rattle.css_base.specs.Tokens.{lexeme, lexemes}
use Rattle.css_lex.specs.Spelling.{joined}
use Rattle.css_lex.proofs.Strings.{IsJoining, one_joined, all_joined}
use Rattle.css_lex.proofs.joining.join_strings.Goals as goal

pub loop-token-preserved : goal.loop-token-preserved
loop-token-preserved c =
    let all = lexemes (into_iter_items c.into_iter-rest.result) in
    record {
      joining =
          one_joined all (lexemes c.loop-token.all.items) _ (lexeme c.in-Some.token) (lexemes (into_iter_items c.next.new.self))
          (subst (λ (items : List Token). IsJoining all (lexemes c.loop-token.all.items) (lexemes items)) c.in-Some.ensures.items c.loop-token.invariant.joining)
          c.in_ok-push_joined.ensures;
      size = let l = c.in-Some.ensures.len in let h = c.loop-token.invariant.size in let s = ap length c.in-Some.ensures.items in omega (arith, l, h, s);
    }

pub returns : goal.returns
returns c =
    let all = lexemes (into_iter_items c.into_iter-rest.result) in
    let none : into_iter_items c.loop-token.rest ≡ [] =
    nil_from_length (into_iter_items c.loop-token.rest)
    (let h = c.loop-token.invariant.size in let l = c.in_default.ensures.cases.0 in omega (arith, h, l)) in
    all_joined all (lexemes c.loop-token.all.items)
    (subst (λ (items : List Token). IsJoining all (lexemes c.loop-token.all.items) (lexemes items)) none c.loop-token.invariant.joining)
    ∙ ap (λ (items : List Token). joined (lexemes items)) c.into_iter-rest.ensures.rest

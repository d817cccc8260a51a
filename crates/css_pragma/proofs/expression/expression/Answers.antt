use Rattle.std.proofs.Common.{◌≡◌, ℕ, ◌-◌, List, length, take, drop, sym, ap, ◌∙◌, subst, arith}
use Rattle.std.proofs.lemmas.List.{take_all, drop-map, length-drop}
use Rattle.css_base.specs.declared.token.Token.{Token}
use Rattle.css_base.specs.Tokens.{lexeme, lexemes}
use Rattle.css_tree.specs.Shapes.{expression}
use Rattle.css_pexpr.specs.Longest.{IsLongest}
use Rattle.css_pragma.proofs.expression.expression.Goals as goal

rest_lexemes : (n : ℕ) (ts : List Token) → lexemes (take (length ts - n) (drop n ts)) ≡ drop n (lexemes ts)
rest_lexemes n ts = ap lexemes (take_all (length ts - n) (drop n ts) (omega (arith, length-drop n ts))) ∙ sym (drop-map lexeme n ts)

pub returns-in-Ok-clause-ok : goal.returns-in-Ok-clause-ok
returns-in-Ok-clause-ok c = record {
  longest = subst (λ l. IsLongest c.args.scope c.args.level (lexemes c.args.tokens.now) (expression c.in-Ok.value) l) (sym (rest_lexemes c.in-Ok.end c.args.tokens.now)) c.in-Ok.ensures.ok.longest;
  low = c.in-Ok.ensures.ok.low;
}

pub returns-in-Err-Static-clause-not_spelled : goal.returns-in-Err-Static-clause-not_spelled
returns-in-Err-Static-clause-not_spelled c = λ why e rest r.
    let refused = rw c.in-Err-Static.field-0-is at c.in-Err-Static.ensures.refused in
    let high = refused.2 e rest r.longest in
    let low = r.low in
    omega arith

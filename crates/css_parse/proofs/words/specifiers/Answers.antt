use Rattle.std.proofs.Common.{◌≡◌, ◌<◌, ◌++◌, [], ◌∷◌, List, ℕ, false, true, eqb, length, refl, sym, ap, ◌∙◌, subst, arith}
use Rattle.std.proofs.lemmas.Bool.{eqb-true, eqb-false}
use Rattle.std.proofs.lemmas.List.{length-map}
use Rattle.css_base.specs.Tokens.{lexeme, lexemes}
use Rattle.css_tree.specs.declared.words.Specifier.{Specifier}
use Rattle.css_parse.specs.Words.{TakesSpecifiers, ReadsSpecifiers}
use Rattle.css_parse.proofs.Gathering.{SoFar, all_read}
use Rattle.css_parse.proofs.GatheredWords.{one_more_specifier}
use Rattle.css_parse.proofs.OneDeclaration.{one_specifiers_taken}
use Rattle.css_parse.proofs.NoDeclaration.{specifiers_shorter}
use Rattle.css_parse.proofs.words.specifiers.Goals as goal

pub loop-specifier-preserved : goal.loop-specifier-preserved
loop-specifier-preserved c = record {
  goes = subst (λ l. SoFar (TakesSpecifiers c.args.scope (lexemes c.args.tokens.now)) (TakesSpecifiers c.args.scope (lexemes c.in-Some.behind.now)) l) (sym c.in_ok-add.ensures.ok)
      (one_more_specifier c.args.scope c.loop-specifier.all.items c.in-Some.specifier c.loop-specifier.invariant.goes c.in-Some.ensures.found);
  shorter = (let s = c.in-Some.ensures.shorter in let i = c.loop-specifier.invariant.shorter in omega arith);
}

some_length : (n m : ℕ) → n ≡ m → eqb n 0 ≡ false → 0 < m
some_length n m e h = let f = eqb-false n 0 h in omega arith

no_length : (n m : ℕ) → n ≡ m → eqb n 0 ≡ true → m ≡ 0
no_length n m e h = sym e ∙ eqb-true n 0 h

read : (c : goal.Else-is_empty) → ReadsSpecifiers c.args.scope (lexemes c.args.tokens.now) c.loop-specifier.all.items (lexemes c.loop-specifier.rest.now)
read c = record {
  some = some_length _ _ c.loop-specifier.all.ok.0 (sym c.is_empty.ensures ∙ c.if-is_empty.false);
  takes = all_read c.loop-specifier.all.items c.loop-specifier.invariant.goes (refl, c.in_default.ensures.none);
}

pub returns-clause-ok : goal.returns-clause-ok
returns-clause-ok c = read c

pub returns-clause-shorter : goal.returns-clause-shorter
returns-clause-shorter c =
    let s = specifiers_shorter (read c) in
    omega (arith, length-map c.loop-specifier.rest.now lexeme, length-map c.args.tokens.now lexeme)

pub returns-then-is_empty-clause-not_spelled : goal.returns-then-is_empty-clause-not_spelled
returns-then-is_empty-clause-not_spelled c = λ why all rest r.
    let none = no_length _ _ c.loop-specifier.all.ok.0 (sym c.is_empty.ensures ∙ c.if-is_empty.true) in
    let empty = all_read c.loop-specifier.all.items c.loop-specifier.invariant.goes (refl, c.in_default.ensures.none) in
    let same = one_specifiers_taken c.args.scope (lexemes c.args.tokens.now) all c.loop-specifier.all.items r.takes empty in
    let size = ap length same.0 in
    let some = r.some in
    omega arith

use Rattle.std.proofs.Common.{◌≡◌, ℕ, ◌≤◌, [], ◌∷◌, ◌++◌, length, max, false, true, refl, sym, ap, ◌∙◌, subst, arith}
use Rattle.std.proofs.lemmas.Bool.{false≢true}
use Rattle.css_base.specs.Tokens.{lexeme, lexemes}
use Rattle.css_tree.specs.Syntax.{NoParts, MoreParts}
use Rattle.css_tree.specs.TokenParts.{first_line}
use Rattle.css_tree.specs.Shapes.{expression, initialiser, listed_parts}
use Rattle.css_tree.specs.Heights.{height_of_initialiser}
use Rattle.css_parse.specs.Readings as reads
use Rattle.css_parse.specs.Readings.{valued, ReadsInitialiser, ReadsParts}
use Rattle.css_parse.proofs.Exits.{passed}
use Rattle.css_parse.proofs.AsLists.{initialiser-List, joined_parts, joined_parts-append, joined_parts-all}
use Rattle.css_parse.proofs.GatheredParts.{one_more_part, no_part, no_end}
use Rattle.css_parse.proofs.Initials.{front_of, valued_low, no_valued, no_high}
use Rattle.css_parse.proofs.initialiser.+initialisers.Goals as goal

pub initialiser-returns-in-Some-after_mark-clause-ok : goal.initialiser-returns-in-Some-after_mark-clause-ok
initialiser-returns-in-Some-after_mark-clause-ok t c =
    let f = front_of c.args.tokens.now c.in-Some.first.now c.in-Some.ensures.value in
    subst (λ x. ReadsInitialiser c.args.scope c.args.levels (lexemes c.args.tokens.now) x (lexemes c.in_ok-parts.rest.now)) (sym (initialiser-List c.in-Some.first.now.line c.in_ok-parts.parts))
    (reads.Braced (lexemes c.in-Some-after_mark.inside.now) c.in-Some-after_mark.ensures.found (ap (λ l. first_line (lexemes l)) f.1) c.in_ok-parts.ensures.ok)

pub initialiser-returns-in_err-value-clause-not_spelled : goal.initialiser-returns-in_err-value-clause-not_spelled
initialiser-returns-in_err-value-clause-not_spelled t c = λ why value rest r.
    no_valued c.args.scope c.args.levels c.max.result (lexemes c.args.tokens.now) value rest (omega (arith, c.max.ensures)) c.in_default-after_mark.ensures.none
    (c.in_err-value.ensures.not_spelled (passed c.from_residual-in_err-value.result c.in_err-value.field-0.0 c.from_residual-in_err-value.ensures.1 why)) r

pub initialiser-returns-then-is_high-clause-not_spelled : goal.initialiser-returns-then-is_high-clause-not_spelled
initialiser-returns-then-is_high-clause-not_spelled t c = λ why value rest r.
    let f = front_of c.args.tokens.now c.in-Some.first.now c.in-Some.ensures.value in
    let first = c.in-Some.first.now in
    let high = c.is_high.ensures.0 c.if-is_high.true in
    let is = ap (λ l. valued (lexemes l) (expression c.in_ok-value.value)) f.1 ∙ sym (c.valued-value.ensures first.line first.place first.end (lexemes f.0)) ∙ high.1.1 in
    no_high c.args.scope c.args.levels (lexemes c.args.tokens.now) value rest high.0 c.in_default-after_mark.ensures.none c.in_ok-value.ensures.ok.longest is r

pub initialiser-returns-clause-ok : goal.initialiser-returns-clause-ok
initialiser-returns-clause-ok t c =
    let f = front_of c.args.tokens.now c.in-Some.first.now c.in-Some.ensures.value in
    let first = c.in-Some.first.now in
    let e = expression c.in_ok-value.value in
    let is : initialiser c.valued-value.result ≡ valued (lexemes c.args.tokens.now) e = c.valued-value.ensures first.line first.place first.end (lexemes f.0) ∙ sym (ap (λ l. valued (lexemes l) e) f.1) in
    let most = c.in_ok-value.ensures.ok.low in
    let low = valued_low (lexemes c.args.tokens.now) e c.args.levels (omega (arith, c.max.ensures)) (λ zero x same. false≢true (sym c.if-is_high.false ∙ c.is_high.ensures.1 (zero, (x, is ∙ same)))) in
    reads.Valued e c.in_default-after_mark.ensures.none c.in_ok-value.ensures.ok.longest is (subst (λ x. height_of_initialiser x ≤ c.args.levels) (sym is) low)

pub parts-returns-in_err-part-clause-not_spelled : goal.parts-returns-in_err-part-clause-not_spelled
parts-returns-in_err-part-clause-not_spelled t c = λ why x rest r.
    let l = c.loop-parts.invariant.goes.left x rest r in
    no_part c.args.scope c.args.levels (lexemes c.loop-parts.rest.now) l.0 rest (c.in_err-part.ensures.not_spelled (passed c.from_residual.result c.in_err-part.field-0.0 c.from_residual.ensures.1 why)) l.1

pub parts-returns-in-Some-clause-ok : goal.parts-returns-in-Some-clause-ok
parts-returns-in-Some-clause-ok t c =
    let old = c.loop-parts.parts.items in
    let part = c.in_ok-part.part in
    subst (λ l. ReadsParts c.args.scope c.args.levels (lexemes c.args.tokens.now) l (lexemes c.in-Some.end.now))
    (sym (joined_parts-append old part NoParts) ∙ joined_parts-all (old ++ part ∷ []) ∙ ap listed_parts (sym c.in_ok-add.ensures.ok))
    (c.loop-parts.invariant.goes.more (MoreParts (initialiser part) NoParts) (lexemes c.in-Some.end.now) (reads.Parts (lexemes c.in_ok-part.behind.now) c.in_ok-part.ensures.ok (reads.Closed c.in-Some.ensures.found)))

pub parts-returns-in-Some-after_mark-2-clause-ok : goal.parts-returns-in-Some-after_mark-2-clause-ok
parts-returns-in-Some-after_mark-2-clause-ok t c =
    let old = c.loop-parts.parts.items in
    let part = c.in_ok-part.part in
    let end = lexemes c.in-Some-after_mark-2.end.now in
    subst (λ l. ReadsParts c.args.scope c.args.levels (lexemes c.args.tokens.now) l end)
    (sym (joined_parts-append old part NoParts) ∙ joined_parts-all (old ++ part ∷ []) ∙ ap listed_parts (sym c.in_ok-add.ensures.ok))
    (c.loop-parts.invariant.goes.more (MoreParts (initialiser part) NoParts) end
    (reads.Parts (lexemes c.in_ok-part.behind.now) c.in_ok-part.ensures.ok (reads.ClosedBehindComma (lexemes c.in-Some-after_mark.next.now) c.in-Some-after_mark.ensures.found c.in-Some-after_mark-2.ensures.found)))

pub parts-returns-in_default-after_mark-clause-not_spelled : goal.parts-returns-in_default-after_mark-clause-not_spelled
parts-returns-in_default-after_mark-clause-not_spelled t c = λ why x rest r.
    let l = c.loop-parts.invariant.goes.left x rest r in
    no_end c.args.scope c.args.levels (lexemes c.loop-parts.rest.now) (lexemes c.in_ok-part.behind.now) l.0 rest (initialiser c.in_ok-part.part) c.in_ok-part.ensures.ok c.in_default.ensures.none c.in_default-after_mark.ensures.none l.1

pub parts-loop-parts-preserved : goal.parts-loop-parts-preserved
parts-loop-parts-preserved t c = record {
  goes = one_more_part c.args.scope c.args.levels (joined_parts c.loop-parts.parts.items) (joined_parts c.add.new.parts.items) (initialiser c.in_ok-part.part) c.loop-parts.invariant.goes
      (λ x. ap (λ l. joined_parts l x) c.in_ok-add.ensures.ok ∙ joined_parts-append c.loop-parts.parts.items c.in_ok-part.part x)
      c.in_ok-part.ensures.ok c.in-Some-after_mark.ensures.found c.in_default-after_mark-2.ensures.none;
  shorter = (let s = c.in_ok-part.ensures.shorter in let n = c.in-Some-after_mark.ensures.shorter in let i = c.loop-parts.invariant.shorter in omega arith);
}

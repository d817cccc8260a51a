use Rattle.std.proofs.Common.{◌≡◌, ◌<◌, Err, length, map, refl, sym, ap, ◌∙◌, subst, arith}
use Rattle.std.proofs.lemmas.List.{map-append, length-map}
use Rattle.css_base.specs.Tokens.{lexeme, lexemes}
use Rattle.css_tree.specs.Shapes.{item}
use Rattle.css_parse.proofs.Initials.{front_of, none_of}
use Rattle.css_parse.proofs.Programs.{AreItemsSoFar, no_items_yet, one_more_item, all_spelled, unspelled}
use Rattle.css_parse.proofs.Rules.{unspelled_at}
use Rattle.css_parse.proofs.program.items.Goals as goal

pub loop-first-init : goal.loop-first-init
loop-first-init c = (let ts = lexemes c.args.tokens.now in subst (λ l. AreItemsSoFar ts (map item l) ts) (sym c.new-items.ensures.items) (no_items_yet ts))

pub loop-first-preserved : goal.loop-first-preserved
loop-first-preserved c =
    let ts = lexemes c.args.tokens.now in
    let shorter = c.in-Ok.ensures.shorter in
    subst (λ l. AreItemsSoFar ts l (lexemes c.in-Ok.others.now)) (sym (ap (map item) c.in-Ok-add.ensures.ok ∙ map-append item c.loop-first.items.items _))
    (one_more_item ts (map item c.loop-first.items.items) (lexemes c.loop-first.rest.now) (lexemes c.in-Ok.others.now) (item c.in-Ok.next) c.loop-first.invariant c.in-Ok.ensures.ok
    (omega (arith, length-map c.in-Ok.others.now lexeme, length-map c.loop-first.rest.now lexeme)))

pub returns-in-Err-NotSpelled-clause-refused : goal.returns-in-Err-NotSpelled-clause-refused
returns-in-Err-NotSpelled-clause-refused c =
    let ts = lexemes c.args.tokens.now in
    let f = front_of c.loop-first.rest.now c.in-Some.first.now c.in-Some.ensures.value in
    unspelled_at ts c.refused.result c.in-Some.first.now.line c.refused.ensures
    (unspelled ts (map item c.loop-first.items.items) (lexemes c.loop-first.rest.now) (lexeme c.in-Some.first.now) (lexemes f.0) c.in-Some.first.now.line c.loop-first.invariant (ap lexemes f.1) refl
    (c.in-Err-NotSpelled.ensures.not_spelled (ap Err c.in-Err-NotSpelled.field-0-is)))

pub returns-clause-ok : goal.returns-clause-ok
returns-clause-ok c = all_spelled (lexemes c.args.tokens.now) (map item c.loop-first.items.items) (lexemes c.loop-first.rest.now) c.loop-first.invariant (none_of c.loop-first.rest.now c.in_default.ensures.value)

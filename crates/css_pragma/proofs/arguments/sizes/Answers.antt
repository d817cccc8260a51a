use Rattle.std.proofs.Common.{map, refl, sym, ap, ◌∙◌, subst, arith}
use Rattle.std.proofs.lemmas.List.{map-append}
use Rattle.css_base.specs.Tokens.{lexemes}
use Rattle.css_tree.specs.Shapes.{expression}
use Rattle.css_parse.proofs.Gathering.{SoFar, all_read}
use Rattle.css_pragma.specs.Readings.{ReadsSizes}
use Rattle.css_pragma.proofs.Exits.{passed}
use Rattle.css_pragma.proofs.Gathered.{one_more_size, no_size}
use Rattle.css_pragma.proofs.arguments.sizes.Goals as goal

pub loop-inside-preserved : goal.loop-inside-preserved
loop-inside-preserved c = record {
  goes = subst (λ l. SoFar (ReadsSizes (lexemes c.args.tokens.now)) (ReadsSizes (lexemes c.in_ok-size.behind.now)) l)
      (sym (ap (map expression) c.in_ok-add.ensures.ok ∙ map-append expression c.loop-inside.all.items _))
      (one_more_size (map expression c.loop-inside.all.items) (expression c.in_ok-size.size) c.loop-inside.invariant.goes c.in-Some.ensures.found c.in_ok-size.ensures.ok);
  shorter = (let s = c.in-Some.ensures.shorter in let n = c.in_ok-size.ensures.shorter in let i = c.loop-inside.invariant.shorter in omega arith);
}

pub returns-clause-ok : goal.returns-clause-ok
returns-clause-ok c = all_read (map expression c.loop-inside.all.items) c.loop-inside.invariant.goes (refl, c.in_default.ensures.none)

pub returns-in_err-size-clause-not_spelled : goal.returns-in_err-size-clause-not_spelled
returns-in_err-size-clause-not_spelled c = λ why sizes rest r.
    let l = c.loop-inside.invariant.goes.left sizes rest r in
    no_size (lexemes c.loop-inside.rest.now) (lexemes c.in-Some.inside.now) l.0 rest c.in-Some.ensures.found
    (c.in_err-size.ensures.not_spelled (passed c.from_residual.result c.in_err-size.field-0.0 c.from_residual.ensures.1 why)) l.1

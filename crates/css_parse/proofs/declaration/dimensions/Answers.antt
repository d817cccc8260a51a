use Rattle.std.proofs.Common.{◌≡◌, ◌≤◌, length, refl, sym, ap, ◌∙◌, subst, arith}
use Rattle.std.specs.Option.{option_map}
use Rattle.std.proofs.lemmas.List.{map-append}
use Rattle.css_base.specs.Tokens.{lexemes}
use Rattle.css_tree.specs.Shapes.{expression, dimensions}
use Rattle.css_parse.specs.Readings.{ReadsDimensions}
use Rattle.css_parse.proofs.Exits.{passed}
use Rattle.css_parse.proofs.Gathering.{SoFar, all_read}
use Rattle.css_parse.proofs.GatheredWords.{one_more_dimension}
use Rattle.css_parse.proofs.NoDeclaration.{no_size}
use Rattle.css_parse.proofs.declaration.dimensions.Goals as goal

pub loop-inside-preserved : goal.loop-inside-preserved
loop-inside-preserved c = record {
  goes = subst (λ l. SoFar (ReadsDimensions c.args.scope c.args.levels (lexemes c.args.tokens.now)) (ReadsDimensions c.args.scope c.args.levels (lexemes c.in_ok-size.behind.now)) l)
      (sym (ap dimensions c.in_ok-add.ensures.ok ∙ map-append (option_map expression) c.loop-inside.sizes.items _))
      (one_more_dimension c.args.scope c.args.levels (dimensions c.loop-inside.sizes.items) (option_map expression c.in_ok-size.size) c.loop-inside.invariant.goes c.in-Some.ensures.found c.in_ok-size.ensures.ok);
  shorter = (let s = c.in-Some.ensures.shorter in let n = c.in_ok-size.ensures.shorter in let i = c.loop-inside.invariant.shorter in omega arith);
}

pub returns-clause-ok : goal.returns-clause-ok
returns-clause-ok c = all_read (dimensions c.loop-inside.sizes.items) c.loop-inside.invariant.goes (refl, c.in_default.ensures.none)

pub returns-in_err-size-clause-not_spelled : goal.returns-in_err-size-clause-not_spelled
returns-in_err-size-clause-not_spelled c = λ why sizes rest r.
    let l = c.loop-inside.invariant.goes.left sizes rest r in
    no_size c.args.scope c.args.levels (lexemes c.loop-inside.rest.now) (lexemes c.in-Some.inside.now) l.0 rest c.in-Some.ensures.found
    (c.in_err-size.ensures.not_spelled (passed c.from_residual.result c.in_err-size.field-0.0 c.from_residual.ensures.1 why)) l.1

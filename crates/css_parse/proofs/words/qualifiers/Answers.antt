use Rattle.std.proofs.Common.{◌≡◌, ◌<◌, ◌++◌, [], ◌∷◌, length, refl, sym, subst, arith}
use Rattle.css_base.specs.Tokens.{lexemes}
use Rattle.css_parse.specs.Words.{TakesQualifiers}
use Rattle.css_parse.proofs.Gathering.{SoFar, all_read}
use Rattle.css_parse.proofs.GatheredWords.{one_more_qualifier}
use Rattle.css_parse.proofs.words.qualifiers.Goals as goal

pub loop-qualifier-preserved : goal.loop-qualifier-preserved
loop-qualifier-preserved c = record {
  goes = subst (λ l. SoFar (TakesQualifiers (lexemes c.args.tokens.now)) (TakesQualifiers (lexemes c.in-Some.behind.now)) l) (sym c.in_ok-add.ensures.ok)
      (one_more_qualifier c.loop-qualifier.all.items c.in-Some.qualifier c.loop-qualifier.invariant.goes c.in-Some.ensures.found);
  shorter = (let s = c.in-Some.ensures.shorter in let i = c.loop-qualifier.invariant.shorter in omega arith);
}

pub returns-clause-ok : goal.returns-clause-ok
returns-clause-ok c = all_read c.loop-qualifier.all.items c.loop-qualifier.invariant.goes (refl, c.in_default.ensures.none)

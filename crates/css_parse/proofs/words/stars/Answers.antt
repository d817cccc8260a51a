use Rattle.std.proofs.Common.{◌≡◌, ◌≤◌, length, refl, sym, ap, ◌∙◌, subst, arith}
use Rattle.std.proofs.lemmas.List.{map-append}
use Rattle.css_base.specs.Tokens.{lexemes}
use Rattle.css_tree.specs.Shapes.{stars}
use Rattle.css_parse.specs.Words.{ReadsStars}
use Rattle.css_parse.proofs.Gathering.{SoFar, all_read}
use Rattle.css_parse.proofs.GatheredWords.{one_more_star}
use Rattle.css_parse.proofs.words.stars.Goals as goal

pub loop-behind-preserved : goal.loop-behind-preserved
loop-behind-preserved c = record {
  goes = subst (λ l. SoFar (ReadsStars (lexemes c.args.tokens.now)) (ReadsStars (lexemes c.in_ok-qualifiers.next.now)) l)
      (sym (ap stars c.in_ok-add.ensures.ok ∙ map-append (λ star. star.qualifiers.items) c.loop-behind.all.items _))
      (one_more_star (stars c.loop-behind.all.items) c.in_ok-qualifiers.qualifiers.items c.loop-behind.invariant.goes c.in-Some.ensures.found c.in_ok-qualifiers.ensures.ok);
  shorter = (let s = c.in-Some.ensures.shorter in let n = c.in_ok-qualifiers.ensures.shorter in let i = c.loop-behind.invariant.shorter in omega arith);
}

pub returns-clause-ok : goal.returns-clause-ok
returns-clause-ok c = all_read (stars c.loop-behind.all.items) c.loop-behind.invariant.goes (refl, c.in_default.ensures.none)

use Rattle.std.proofs.Common.{◌∙◌, sym, ◌∷◌, [], arith}
use Rattle.css_lexemes.proofs.Rests.{rest_is}
use Rattle.css_lexemes.proofs.CommentEnds.{before_more}
use Rattle.css_lexemes.proofs.comments.length_before_pair.Goals as goal

pub loop-end-preserved : goal.loop-end-preserved
loop-end-preserved c =
    let more = before_more (c.args.first ∷ c.args.second ∷ []) c.args.text.now _ c.loop-end.end (rest_is c.loop-end.end c.args.text.now) c.loop-end-test.true (sym c.begins_with_pair.ensures.value ∙ c.if-not-begins_with_pair.true) in
    record {
      within = omega (arith, c.loop-end-test.true);
      passed = omega (arith, more, c.loop-end.invariant.passed);
    }

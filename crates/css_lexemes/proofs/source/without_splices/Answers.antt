use Rattle.std.proofs.Common.{◌∙◌, ap, sym, ◌++◌, length, arith, length-drop}
use Rattle.css_lexemes.proofs.Rests.{rest_is}
use Rattle.css_lexemes.proofs.Splices.{past_splice}
use Rattle.css_lexemes.proofs.source.without_splices.Goals as goal

pub loop-place-preserved-then-length-gt0 : goal.loop-place-preserved-then-length-gt0
loop-place-preserved-then-length-gt0 c = record {
  within = let l = length-drop c.loop-place.place c.args.text.now in omega (arith, c.splice_at-length.ensures.within, c.loop-place-test.true, ap length (rest_is c.loop-place.place c.args.text.now));
  done = c.loop-place.invariant.done ∙ ap (λ z. c.loop-place.bytes.items ++ z) (past_splice c.loop-place.place c.splice_at-length.result c.args.text.now _ (rest_is c.loop-place.place c.args.text.now) (sym c.splice_at-length.ensures.value) c.if-length-gt0.true);
}

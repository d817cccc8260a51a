use Rattle.std.proofs.Common.{◌+◌, ◌∙◌, sym, ap, length, arith, length-drop}
use Rattle.css_lexemes.specs.Source.{splice_length}
use Rattle.css_lexemes.proofs.Rests.{rest_is}
use Rattle.css_lex.proofs.CommentBytes.{splice_gone}
use Rattle.css_lex.proofs.bad_bytes.next_byte.Goals as goal

pub loop-length-preserved : goal.loop-length-preserved
loop-length-preserved c =
    let text = c.args.text.now in
    let at = c.loop-length.at in
    let n = c.loop-length.length in
    let i = c.loop-length.invariant in
    let r = rest_is (at + n) text in
    let l = length-drop (at + n) text in
    record {
      lower = omega (arith, i.lower);
      upper = omega (arith, i.upper, i.inside);
      length_is = c.splice_at-length-in-loop-length.ensures.value ∙ ap splice_length r;
      inside = omega (arith, c.splice_at-length-in-loop-length.ensures.within, l, ap length r);
      same = i.same ∙ splice_gone at n text (sym i.length_is) c.loop-length-test.true;
    }

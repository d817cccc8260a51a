use Rattle.std.proofs.Common.{◌≡◌, ap, length, arith, length-drop}
use Rattle.css_lexemes.proofs.Rests.{rest_is}
use Rattle.css_lexemes.proofs.Uncommenting.{comment_shown, byte_shown}
use Rattle.css_lexemes.proofs.comments.without_comments.Goals as goal

pub loop-place-preserved-then-hidden-gt0 : goal.loop-place-preserved-then-hidden-gt0
loop-place-preserved-then-hidden-gt0 c =
    let text = c.args.source.now in let place = c.loop-place.place in let shown = c.loop-place.shown in let found = c.hidden_at-hidden.ensures in
    record {
      within = let l = length-drop place text in omega (arith, found.within, c.loop-place-test.true, ap length (rest_is place text));
      done =
          comment_shown text _ shown.bytes.items _ shown.front.items _ c.loop-place.kept c.hidden_at-hidden.result place c.loop-place.invariant.done
          c.loop-place-test.true (rest_is place text) found.inside found.outside c.if-hidden-gt0.true c.in_ok-push.ensures.bytes c.in_ok-push.ensures.front;
    }

pub loop-place-preserved : goal.loop-place-preserved
loop-place-preserved c =
    let text = c.args.source.now in let place = c.loop-place.place in let shown = c.loop-place.shown in let next = c.kept_behind-kept.ensures in
    let none : c.hidden_at-hidden.result ≡ 0 = omega (arith, c.if-hidden-gt0.false) in
    record {
      within = omega (arith, c.loop-place-test.true);
      done =
          byte_shown text _ shown.bytes.items _ shown.front.items _ c.loop-place.kept c.hidden_at-hidden.result c.kept_behind-kept.result place
          c.loop-place.invariant.done c.loop-place-test.true (rest_is place text) c.hidden_at-hidden.ensures.outside none next.inside next.outside
          c.in_ok-push-2.ensures.bytes c.in_ok-push-2.ensures.front;
    }

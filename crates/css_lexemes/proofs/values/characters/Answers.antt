use Rattle.std.proofs.Common.{◌+◌, arith, sym, ap, ◌∙◌, length, length-drop}
use Rattle.std.proofs.lemmas.Bool.{ne_eqb}
use Rattle.css_lexemes.specs.Values.{escape_at}
use Rattle.css_lexemes.proofs.Rests.{rest_is}
use Rattle.css_lexemes.proofs.Escapes.{escape_read, byte_read}
use Rattle.css_lexemes.proofs.values.characters.Goals as goal

pub loop-place-preserved-then-byte-eq92 : goal.loop-place-preserved-then-byte-eq92
loop-place-preserved-then-byte-eq92 c =
    let body = c.args.body.now in let place = c.loop-place.place in
    record {
      within =
          let l = length-drop (place + 1) body in
          omega (arith, l, c.in-Some.ensures.within, c.loop-place-test.true, ap length (rest_is (place + 1) body));
      done =
          escape_read body c.loop-place.values.items _ place c.in-Some.escape c.loop-place.invariant.done c.loop-place-test.true c.if-byte-eq92.true
          (ap escape_at (sym (rest_is (place + 1) body)) ∙ sym c.in-Some.ensures.value) c.in_ok-push.ensures.items;
    }

pub loop-place-preserved : goal.loop-place-preserved
loop-place-preserved c =
    let body = c.args.body.now in let place = c.loop-place.place in
    record {
      within = omega (arith, c.loop-place-test.true);
      done =
          byte_read body c.loop-place.values.items _ place c.loop-place.invariant.done c.loop-place-test.true (ne_eqb _ 92 c.if-byte-eq92.false)
          c.in_ok-push-2.ensures.items;
    }

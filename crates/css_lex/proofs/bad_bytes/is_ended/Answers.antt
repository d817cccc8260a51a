use Rattle.std.proofs.Common.{◌+◌, ◌∙◌, sym, ap, refl, ◌||◌}
use Rattle.std.specs.Prelude.{slice_index, ◌==◌, drop}
use Rattle.css_lex.specs.CommentEnd.{plain_bytes, has_end}
use Rattle.css_lex.proofs.CommentBytes.{end_step}
use Rattle.css_lex.proofs.bad_bytes.is_ended.Goals as goal

pub loop-at-preserved : goal.loop-at-preserved
loop-at-preserved c =
    let text = c.args.text.now in
    let at = c.loop-at.at in
    let b = slice_index text at in
    let i = c.loop-at.invariant in
    let next = c.next_byte-at-in-loop-at.ensures in
    record {
      upper = next.upper;
      plain = next.plain;
      same =
          i.same
          ∙ (end_step c.loop-at.star at b text c.loop-at-test.true i.plain refl
          ∙ (ap (λ s. s || has_end (b == 42) (plain_bytes (drop (at + 1) text))) (sym c.closes.ensures ∙ c.if-closes.false)
          ∙ ap (has_end (b == 42)) next.same));
    }

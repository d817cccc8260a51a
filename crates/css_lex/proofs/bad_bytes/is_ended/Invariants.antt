use Rattle.std.proofs.Common.{◌≡◌, ◌-◌, ◌≤◌, length, drop}
use Rattle.std.specs.Prelude.{false}
use Rattle.css_lexemes.specs.Source.{splice_length}
use Rattle.css_lex.specs.CommentEnd.{plain_bytes, has_end}
use Rattle.css_lex.proofs.bad_bytes.is_ended.Given as goal

abbrev pub invariant-loop-at : goal.invariant-loop-at
invariant-loop-at l = record {
  upper : l.at ≤ length l.text;
  plain : splice_length (drop l.at l.text) ≡ 0;
  same : has_end false (plain_bytes (drop l.from l.text)) ≡ has_end l.star (plain_bytes (drop l.at l.text));
}

abbrev pub decreases-loop-at : goal.decreases-loop-at
decreases-loop-at l = length l.text - l.at

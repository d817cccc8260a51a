use Rattle.std.proofs.Common.{◌≡◌, ◌-◌, ◌≤◌, length, drop}
use Rattle.css_lexemes.specs.Source.{splice_length}
use Rattle.css_lex.specs.CommentEnd.{plain_bytes}
use Rattle.css_lex.proofs.bad_bytes.next_byte.Given as goal

abbrev pub invariant-loop-length : goal.invariant-loop-length
invariant-loop-length l = record {
  lower : l.from ≤ l.at;
  upper : l.at ≤ length l.text;
  length_is : l.length ≡ splice_length (drop l.at l.text);
  inside : l.length ≤ length l.text - l.at;
  same : plain_bytes (drop l.from l.text) ≡ plain_bytes (drop l.at l.text);
}

abbrev pub decreases-loop-length : goal.decreases-loop-length
decreases-loop-length l = length l.text - l.at

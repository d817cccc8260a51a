use Rattle.std.proofs.Common.{◌≡◌, ◌+◌, ◌-◌, ◌≤◌, length, drop}
use Rattle.std.specs.List.{prefix_len}
use Rattle.css_lexemes.specs.LineKinds.{is_word_byte}
use Rattle.css_lexemes.proofs.line_kind.word_in_front.Given as goal

abbrev pub invariant-loop-end : goal.invariant-loop-end
invariant-loop-end l = record {
  within : l.end ≤ length l.text;
  passed : prefix_len is_word_byte l.text ≡ l.end + prefix_len is_word_byte (drop l.end l.text);
}

abbrev pub decreases-loop-end : goal.decreases-loop-end
decreases-loop-end l = length l.text - l.end

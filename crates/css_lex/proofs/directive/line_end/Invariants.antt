use Rattle.std.proofs.Common.{◌≡◌, ◌-◌, ◌≤◌, length, drop}
use Rattle.css_lexemes.specs.Longest.{pieces_of}
use Rattle.css_lex.specs.Reading.{solid, last_end}
use Rattle.css_lex.proofs.LineEnds.{end_behind}
use Rattle.css_lex.proofs.directive.line_end.Given as goal

abbrev pub invariant-loop-from : goal.invariant-loop-from
invariant-loop-from l = record {
  within : l.from ≤ length l.line.bytes.now;
  inside : l.end ≤ length l.numbered.text.now;
  same : last_end (solid (pieces_of l.line.source.now)) ≡ end_behind l.end (solid (pieces_of (drop l.from l.line.source.now)));
}

abbrev pub decreases-loop-from : goal.decreases-loop-from
decreases-loop-from l = length l.line.bytes.now - l.from

use Rattle.std.proofs.Common.{◌≡◌, ◌-◌, ◌≤◌, length, drop}
use Rattle.std.specs.Prelude.{false}
use Rattle.css_lexemes.specs.Longest.{closed_length, more_of}
use Rattle.css_lexemes.proofs.pieces.length_to_quote.Given as goal

abbrev pub invariant-loop-end : goal.invariant-loop-end
invariant-loop-end l = record {
  within : l.end ≤ length l.text;
  passed : closed_length l.quote false l.text ≡ more_of l.end (closed_length l.quote l.escaped (drop l.end l.text));
}

abbrev pub decreases-loop-end : goal.decreases-loop-end
decreases-loop-end l = length l.text - l.end

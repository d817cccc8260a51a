use Rattle.std.proofs.Common.{◌+◌, ◌≤◌, length}
use Rattle.css_listing.specs.Reading.{IsReadTo}
use Rattle.css_listing.proofs.reading.read_lines.Given as goal

abbrev pub invariant-loop-end : goal.invariant-loop-end
invariant-loop-end l = record {
  read : IsReadTo l.text l.rest l.draft l.line;
  within : l.line + length l.rest ≤ length l.text + 1;
}

abbrev pub decreases-loop-end : goal.decreases-loop-end
decreases-loop-end l = length l.rest

use Rattle.std.proofs.Common.{◌≡◌, ◌+◌, ◌-◌, ◌≤◌, [], ◌∷◌, length, drop}
use Rattle.css_lexemes.specs.Source.{bytes_of}
use Rattle.css_lexemes.specs.Comments.{length_before}
use Rattle.css_lexemes.proofs.comments.length_before_pair.Given as goal

abbrev pub invariant-loop-end : goal.invariant-loop-end
invariant-loop-end l = record {
  within : l.end ≤ length l.text;
  passed : length_before (l.first ∷ l.second ∷ []) (bytes_of l.text) ≡ l.end + length_before (l.first ∷ l.second ∷ []) (bytes_of (drop l.end l.text));
}

abbrev pub decreases-loop-end : goal.decreases-loop-end
decreases-loop-end l = length l.text - l.end

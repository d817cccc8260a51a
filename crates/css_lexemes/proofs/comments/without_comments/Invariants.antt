use Rattle.std.proofs.Common.{◌≡◌, ◌-◌, ◌≤◌, [], ◌++◌, length, drop}
use Rattle.css_lexemes.specs.Comments.{uncommented}
use Rattle.css_lexemes.proofs.comments.without_comments.Given as goal

abbrev pub invariant-loop-place : goal.invariant-loop-place
invariant-loop-place l = record {
  within : l.place ≤ length l.source;
  done : uncommented [] 0 0 l.source ≡ l.shown.bytes.items ++ uncommented l.shown.front.items 0 l.kept (drop l.place l.source);
}

abbrev pub decreases-loop-place : goal.decreases-loop-place
decreases-loop-place l = length l.source - l.place

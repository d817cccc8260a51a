use Rattle.std.proofs.Common.{◌≤◌, length}
use Rattle.css_base.specs.Tokens.{lexemes}
use Rattle.css_tree.specs.Shapes.{stars}
use Rattle.css_parse.specs.Words.{ReadsStars}
use Rattle.css_parse.proofs.Gathering.{SoFar}
use Rattle.css_parse.proofs.words.stars.Given as goal

abbrev pub invariant-loop-behind : goal.invariant-loop-behind
invariant-loop-behind l = record {
  goes : SoFar (ReadsStars (lexemes l.tokens)) (ReadsStars (lexemes l.rest)) (stars l.all.items);
  shorter : length l.rest ≤ length l.tokens;
}

abbrev pub decreases-loop-behind : goal.decreases-loop-behind
decreases-loop-behind l = length l.rest

use Rattle.std.proofs.Common.{◌≤◌, length, map}
use Rattle.css_base.specs.Tokens.{lexemes}
use Rattle.css_tree.specs.Shapes.{parameter}
use Rattle.css_parse.specs.ItemReadings.{ReadsListed, ReadsFurtherParameters}
use Rattle.css_parse.proofs.Gathering.{SoFar}
use Rattle.css_parse.proofs.parameters.listed.Given as goal

abbrev pub invariant-loop-behind : goal.invariant-loop-behind
invariant-loop-behind l = record {
  goes : SoFar (ReadsListed l.levels (lexemes l.tokens)) (ReadsFurtherParameters l.levels (lexemes l.rest)) (map parameter l.all.items);
  shorter : length l.rest ≤ length l.tokens;
}

abbrev pub decreases-loop-behind : goal.decreases-loop-behind
decreases-loop-behind l = length l.rest

use Rattle.std.proofs.Common.{◌≤◌, length}
use Rattle.css_base.specs.Tokens.{lexemes}
use Rattle.css_tree.specs.Shapes.{dimensions}
use Rattle.css_parse.specs.Readings.{ReadsDimensions}
use Rattle.css_parse.proofs.Gathering.{SoFar}
use Rattle.css_parse.proofs.declaration.dimensions.Given as goal

abbrev pub invariant-loop-inside : goal.invariant-loop-inside
invariant-loop-inside l = record {
  goes : SoFar (ReadsDimensions l.scope l.levels (lexemes l.tokens)) (ReadsDimensions l.scope l.levels (lexemes l.rest)) (dimensions l.sizes.items);
  shorter : length l.rest ≤ length l.tokens;
}

abbrev pub decreases-loop-inside : goal.decreases-loop-inside
decreases-loop-inside l = length l.rest

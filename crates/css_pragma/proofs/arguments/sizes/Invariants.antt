use Rattle.std.proofs.Common.{◌≤◌, length, map}
use Rattle.css_base.specs.Tokens.{lexemes}
use Rattle.css_tree.specs.Shapes.{expression}
use Rattle.css_parse.proofs.Gathering.{SoFar}
use Rattle.css_pragma.specs.Readings.{ReadsSizes}
use Rattle.css_pragma.proofs.arguments.sizes.Given as goal

abbrev pub invariant-loop-inside : goal.invariant-loop-inside
invariant-loop-inside l = record {
  goes : SoFar (ReadsSizes (lexemes l.tokens)) (ReadsSizes (lexemes l.rest)) (map expression l.all.items);
  shorter : length l.rest ≤ length l.tokens;
}

abbrev pub decreases-loop-inside : goal.decreases-loop-inside
decreases-loop-inside l = length l.rest

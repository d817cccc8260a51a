use Rattle.std.proofs.Common.{◌≤◌, length, map}
use Rattle.css_base.specs.Tokens.{lexemes}
use Rattle.css_tree.specs.Shapes.{argument}
use Rattle.css_parse.proofs.Gathering.{SoFar}
use Rattle.css_pragma.specs.Readings.{ReadsSome, ReadsFurther}
use Rattle.css_pragma.proofs.arguments.listed.Given as goal

abbrev pub invariant-loop-behind : goal.invariant-loop-behind
invariant-loop-behind l = record {
  goes : SoFar (ReadsSome (lexemes l.tokens)) (ReadsFurther (lexemes l.rest)) (map argument l.all.items);
  shorter : length l.rest ≤ length l.tokens;
}

abbrev pub decreases-loop-behind : goal.decreases-loop-behind
decreases-loop-behind l = length l.rest

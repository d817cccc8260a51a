use Rattle.std.proofs.Common.{◌≤◌, length, map}
use Rattle.css_base.specs.Tokens.{lexemes}
use Rattle.css_tree.specs.Shapes.{expression}
use Rattle.css_parse.proofs.Gathering.{SoFar}
use Rattle.css_pragma.specs.Readings.{ReadsAddresses, ReadsFurtherAddresses}
use Rattle.css_pragma.proofs.spelled.addresses.Given as goal

abbrev pub invariant-loop-behind : goal.invariant-loop-behind
invariant-loop-behind l = record {
  goes : SoFar (ReadsAddresses (lexemes l.tokens)) (ReadsFurtherAddresses (lexemes l.rest)) (map expression l.all.items);
  shorter : length l.rest ≤ length l.tokens;
}

abbrev pub decreases-loop-behind : goal.decreases-loop-behind
decreases-loop-behind l = length l.rest

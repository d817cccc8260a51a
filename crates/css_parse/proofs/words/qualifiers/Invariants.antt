use Rattle.std.proofs.Common.{◌≤◌, length}
use Rattle.css_base.specs.Tokens.{lexemes}
use Rattle.css_parse.specs.Words.{TakesQualifiers}
use Rattle.css_parse.proofs.Gathering.{SoFar}
use Rattle.css_parse.proofs.words.qualifiers.Given as goal

abbrev pub invariant-loop-qualifier : goal.invariant-loop-qualifier
invariant-loop-qualifier l = record {
  goes : SoFar (TakesQualifiers (lexemes l.tokens)) (TakesQualifiers (lexemes l.rest)) l.all.items;
  shorter : length l.rest ≤ length l.tokens;
}

abbrev pub decreases-loop-qualifier : goal.decreases-loop-qualifier
decreases-loop-qualifier l = length l.rest

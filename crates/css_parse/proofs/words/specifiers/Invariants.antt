use Rattle.std.proofs.Common.{◌≤◌, length}
use Rattle.css_base.specs.Tokens.{lexemes}
use Rattle.css_parse.specs.Words.{TakesSpecifiers}
use Rattle.css_parse.proofs.Gathering.{SoFar}
use Rattle.css_parse.proofs.words.specifiers.Given as goal

abbrev pub invariant-loop-specifier : goal.invariant-loop-specifier
invariant-loop-specifier l = record {
  goes : SoFar (TakesSpecifiers l.scope (lexemes l.tokens)) (TakesSpecifiers l.scope (lexemes l.rest)) l.all.items;
  shorter : length l.rest ≤ length l.tokens;
}

abbrev pub decreases-loop-specifier : goal.decreases-loop-specifier
decreases-loop-specifier l = length l.rest

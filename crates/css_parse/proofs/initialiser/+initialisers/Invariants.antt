use Rattle.std.proofs.Common.{◌≡◌, ◌≤◌, ◌+◌, ◌*◌, length}
use Rattle.css_base.specs.Tokens.{lexemes}
use Rattle.css_parse.specs.Readings.{ReadsParts}
use Rattle.css_parse.proofs.Gathering.{Goes}
use Rattle.css_parse.proofs.AsLists.{joined_parts}
use Rattle.css_parse.proofs.initialiser.+initialisers.Given as goal

abbrev pub decreases-initialiser : goal.decreases-initialiser
decreases-initialiser l = 2 * length l.tokens.now

abbrev pub decreases-parts : goal.decreases-parts
decreases-parts l = 2 * length l.tokens.now + 1

abbrev pub invariant-parts-loop-parts : goal.invariant-parts-loop-parts
invariant-parts-loop-parts l = record {
  goes : Goes (joined_parts l.parts.items) (ReadsParts l.scope l.levels (lexemes l.tokens)) (ReadsParts l.scope l.levels (lexemes l.tokens)) (ReadsParts l.scope l.levels (lexemes l.rest));
  shorter : length l.rest ≤ length l.tokens;
}

abbrev pub decreases-parts-loop-parts : goal.decreases-parts-loop-parts
decreases-parts-loop-parts l = length l.rest

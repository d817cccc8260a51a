use Rattle.std.proofs.Common.{length}
use Rattle.css_base.specs.Tokens.{lexemes}
use Rattle.css_parse.proofs.Nesting.{IsShallowSoFar}
use Rattle.css_pragma.proofs.brackets.is_shallow.Given as goal

abbrev pub invariant-loop-token : goal.invariant-loop-token
invariant-loop-token l = IsShallowSoFar (lexemes l.tokens) l.count (lexemes l.rest)

abbrev pub decreases-loop-token : goal.decreases-loop-token
decreases-loop-token l = length l.rest

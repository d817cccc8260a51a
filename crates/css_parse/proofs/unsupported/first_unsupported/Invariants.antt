use Rattle.std.proofs.Common.{◌≡◌, length}
use Rattle.css_base.specs.Tokens.{lexemes}
use Rattle.css_parse.specs.Unsupported.{unsupported_lines}
use Rattle.css_parse.proofs.unsupported.first_unsupported.Given as goal

abbrev pub invariant-loop-token : goal.invariant-loop-token
invariant-loop-token l = unsupported_lines (lexemes l.tokens) ≡ unsupported_lines (lexemes l.rest)

abbrev pub decreases-loop-token : goal.decreases-loop-token
decreases-loop-token l = length l.rest

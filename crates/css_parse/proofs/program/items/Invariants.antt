use Rattle.std.proofs.Common.{length, map}
use Rattle.css_base.specs.Tokens.{lexemes}
use Rattle.css_tree.specs.Shapes.{item}
use Rattle.css_parse.proofs.Programs.{AreItemsSoFar}
use Rattle.css_parse.proofs.program.items.Given as goal

abbrev pub invariant-loop-first : goal.invariant-loop-first
invariant-loop-first l = AreItemsSoFar (lexemes l.tokens) (map item l.items.items) (lexemes l.rest)

abbrev pub decreases-loop-first : goal.decreases-loop-first
decreases-loop-first l = length l.rest

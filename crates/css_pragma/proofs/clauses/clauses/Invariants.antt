use Rattle.std.proofs.Common.{length, map}
use Rattle.css_base.specs.Tokens.{lexemes}
use Rattle.css_tree.specs.Shapes.{clause}
use Rattle.css_parse.proofs.Gathering.{SoFar}
use Rattle.css_pragma.proofs.Gathered.{Clauses}
use Rattle.css_pragma.proofs.clauses.clauses.Given as goal

abbrev pub invariant-loop-rest : goal.invariant-loop-rest
invariant-loop-rest l = SoFar (Clauses (lexemes l.tokens)) (Clauses (lexemes l.rest)) (map clause l.all.items)

abbrev pub decreases-loop-rest : goal.decreases-loop-rest
decreases-loop-rest l = length l.rest

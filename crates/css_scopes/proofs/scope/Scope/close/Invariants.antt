use Rattle.std.proofs.Common.{◌≡◌, length}
use Rattle.css_scopes.specs.Scopes.{closed}
use Rattle.css_scopes.proofs.scope.Scope.close.Given as goal

abbrev pub invariant-loop-self : goal.invariant-loop-self
invariant-loop-self g l = closed l.depth l.self ≡ closed l.depth l.initial.self

abbrev pub decreases-loop-self : goal.decreases-loop-self
decreases-loop-self g l = length l.self

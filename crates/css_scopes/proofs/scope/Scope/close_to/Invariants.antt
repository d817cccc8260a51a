use Rattle.std.proofs.Common.{◌≡◌, length}
use Rattle.css_scopes.specs.Scopes.{kept}
use Rattle.css_scopes.proofs.scope.Scope.close_to.Given as goal

abbrev pub invariant-loop-self : goal.invariant-loop-self
invariant-loop-self g l = kept l.count l.self ≡ kept l.count l.initial.self

abbrev pub decreases-loop-self : goal.decreases-loop-self
decreases-loop-self g l = length l.self

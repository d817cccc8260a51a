use Rattle.std.proofs.Common.{◌≡◌, take}
use Rattle.std.specs.List.{count_by}
use Rattle.css_tree.specs.Shapes.{clause}
use Rattle.css_pragma.specs.Directives.{is_priority}
use Rattle.css_pragma.proofs.clauses.priorities.Given as goal

abbrev pub invariant-loop-clause : goal.invariant-loop-clause
invariant-loop-clause l = l.count ≡ count_by (λ c. is_priority (clause c)) (take l.clause-index l.clauses)

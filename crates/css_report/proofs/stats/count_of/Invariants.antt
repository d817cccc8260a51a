use Rattle.std.proofs.Common.{◌≡◌, take, count_by}
use Rattle.css_report.proofs.stats.count_of.Given as goal

abbrev pub invariant-loop-is : goal.invariant-loop-is
invariant-loop-is l = l.count ≡ count_by (λ is. is) (take l.is-index l.answers)

use Rattle.std.proofs.Common.{◌≡◌, take, sum_by, count_by}
use Rattle.css_report.proofs.stats.renamed_of.Given as goal

abbrev pub invariant-loop-call : goal.invariant-loop-call
invariant-loop-call l = l.total ≡ sum_by (λ c. count_by (λ is. is) c.renamed.items) (take l.call-index l.calls)

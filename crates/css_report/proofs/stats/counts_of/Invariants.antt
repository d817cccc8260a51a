use Rattle.std.proofs.Common.{◌≡◌, ◌+◌, map, drop, sum_by}
use Rattle.css_report.specs.Calls.{shown_by, shown}
use Rattle.css_report.specs.Stats.{bytes_read, bytes_written, pieces_moved}
use Rattle.css_vm.specs.Code.{code_of}
use Rattle.css_report.proofs.stats.counts_of.Given as goal

-- what is counted, and what is left
abbrev pub invariant-loop-call : goal.invariant-loop-call
invariant-loop-call l = record {
  reads : l.counts.reads + sum_by (λ c. sum_by bytes_read c.uses) (map (shown_by (code_of l.value.code.now) l.value.names.now) (drop l.call-index l.value.calls.now))
      ≡ sum_by (λ c. sum_by bytes_read c.uses) (shown l.value);
  writes : l.counts.writes + sum_by (λ c. sum_by bytes_written c.uses) (map (shown_by (code_of l.value.code.now) l.value.names.now) (drop l.call-index l.value.calls.now))
      ≡ sum_by (λ c. sum_by bytes_written c.uses) (shown l.value);
  pieces : l.counts.pieces + sum_by (λ c. sum_by pieces_moved c.uses) (map (shown_by (code_of l.value.code.now) l.value.names.now) (drop l.call-index l.value.calls.now))
      ≡ sum_by (λ c. sum_by pieces_moved c.uses) (shown l.value);
}

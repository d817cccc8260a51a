use Rattle.std.proofs.Common.{◌≡◌, ◌+◌, map, drop, sum_by}
use Rattle.css_record.specs.Windows.{window}
use Rattle.css_record.specs.Records.{uses_by}
use Rattle.css_report.specs.Stats.{bytes_read, bytes_written, pieces_moved}
use Rattle.css_report.proofs.counts.Counts.with_task.Given as goal

-- what is counted, and what is left
abbrev pub invariant-loop-part : goal.invariant-loop-part
invariant-loop-part l = record {
  reads : l.counts.reads + sum_by bytes_read (uses_by (drop l.part-index l.parts) (map window l.windows))
      ≡ l.fn.self.reads + sum_by bytes_read (uses_by l.parts (map window l.fn.windows));
  writes : l.counts.writes + sum_by bytes_written (uses_by (drop l.part-index l.parts) (map window l.windows))
      ≡ l.fn.self.writes + sum_by bytes_written (uses_by l.parts (map window l.fn.windows));
  pieces : l.counts.pieces + sum_by pieces_moved (uses_by (drop l.part-index l.parts) (map window l.windows))
      ≡ l.fn.self.pieces + sum_by pieces_moved (uses_by l.parts (map window l.fn.windows));
}

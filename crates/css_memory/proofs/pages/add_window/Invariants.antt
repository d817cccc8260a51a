use Rattle.std.proofs.Common.{◌≡◌, ℕ, ◌+◌, ◌-◌, ◌*◌, ◌<◌, length, slice_index}
use Rattle.css_record.specs.Windows.{window}
use Rattle.css_memory.specs.Pages.{rows_between, bytes_on, RowsEnd}
use Rattle.css_memory.proofs.pages.add_window.Given as goal

abbrev pub invariant-loop-row : goal.invariant-loop-row
invariant-loop-row l = record {
  within : RowsEnd (4096 * length l.counts) (l.part.rows - l.row) l.at l.part.width l.part.stride;
  bytes : (k : ℕ) → k < length l.counts → slice_index l.counts k + rows_between (l.part.rows - l.row) l.at l.part.width l.part.stride (4096 * k) (4096 * k + 4096) ≡ slice_index l.initial.counts k + bytes_on k (window l.part);
}

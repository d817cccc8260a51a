use Rattle.std.proofs.Common.{◌≡◌, ◌+◌, ◌-◌, ◌*◌, ◌^◌, drop, length}
use Rattle.css_semantics.specs.WithWindow.{with_rows, with_window}
use Rattle.css_record.specs.Windows.{window}
use Rattle.css_memory.specs.Pages.{RowsEnd}
use Rattle.css_memory.proofs.main_memory.MainMemory.write_back.Given as goal

abbrev pub invariant-loop-row : goal.invariant-loop-row
invariant-loop-row l = record {
  ends : RowsEnd (2 ^ 33) (l.part.rows - l.row) l.at l.part.width l.part.stride;
  left : l.done + (l.part.rows - l.row) * l.part.width ≡ length l.bytes;
  rest : with_rows l.self.memory (l.part.rows - l.row) l.at l.part.width l.part.stride (drop l.done l.bytes) ≡ with_window l.initial.self.memory (window l.part) l.bytes;
  pages : l.self.pages ≡ l.initial.self.pages;
}

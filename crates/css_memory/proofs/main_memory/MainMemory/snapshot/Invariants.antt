use Rattle.std.proofs.Common.{◌≡◌, ◌+◌, ◌-◌, ◌*◌, ◌^◌, ◌++◌, true, take, length}
use Rattle.css_semantics.specs.Memory.{is_live_byte}
use Rattle.css_semantics.specs.Rules.{all_of_rows}
use Rattle.css_semantics.specs.Verdict.{bytes_of_rows, bytes_of_window}
use Rattle.css_record.specs.Windows.{window}
use Rattle.css_memory.specs.Pages.{RowsEnd}
use Rattle.css_memory.proofs.main_memory.MainMemory.snapshot.Given as goal

abbrev pub invariant-loop-row : goal.invariant-loop-row
invariant-loop-row l = record {
  ends : RowsEnd (2 ^ 33) (l.part.rows - l.row) l.at l.part.width l.part.stride;
  live : all_of_rows (is_live_byte l.self.memory) (l.part.rows - l.row) l.at l.part.width l.part.stride ≡ true;
  left : l.done + (l.part.rows - l.row) * l.part.width ≡ length l.copied.items;
  rest : take l.done l.copied.items ++ bytes_of_rows l.self.memory (l.part.rows - l.row) l.at l.part.width l.part.stride ≡ bytes_of_window l.self.memory (window l.part);
}

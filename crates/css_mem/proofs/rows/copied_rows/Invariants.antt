use Rattle.std.proofs.Common.{◌≡◌, ◌-◌, ◌++◌, length}
use Rattle.css_mem.specs.Slices.{RowsFit, rows_of}
use Rattle.css_mem.proofs.rows.copied_rows.Given as goal

abbrev pub invariant-loop-row : goal.invariant-loop-row
invariant-loop-row l = record {
  fits : RowsFit (length l.bytes) (l.part.rows - l.row) l.at l.part.width l.part.stride;
  rest : l.copied.items ++ rows_of l.bytes (l.part.rows - l.row) l.at l.part.width l.part.stride ≡ rows_of l.bytes l.part.rows l.first l.part.width l.part.stride;
}

use Rattle.std.proofs.Common.{◌≡◌, ◌-◌, ◌+◌, ◌*◌, drop, length}
use Rattle.css_mem.specs.Slices.{RowsFit, over_rows}
use Rattle.css_mem.proofs.rows.write_rows.Given as goal

abbrev pub invariant-loop-i : goal.invariant-loop-i
invariant-loop-i l = record {
  fits : RowsFit (length l.bytes) (l.part.rows - l.i) l.at l.part.width l.part.stride;
  left : l.done + (l.part.rows - l.i) * l.part.width ≡ length l.new;
  rest : over_rows l.bytes (l.part.rows - l.i) l.at l.part.width l.part.stride (drop l.done l.new)
      ≡ over_rows l.initial.bytes l.part.rows l.first l.part.width l.part.stride l.new;
}

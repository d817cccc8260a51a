use Rattle.std.proofs.Common.{◌≡◌, take, map}
use Rattle.css_board.specs.Lines.{line_of}
use Rattle.css_board.proofs.lines.lines_of.Given as goal

abbrev pub invariant-loop-entry : goal.invariant-loop-entry
invariant-loop-entry l = l.lines.items ≡ map (line_of l.names) (take l.entry-index l.history)

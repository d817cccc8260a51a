use Rattle.std.proofs.Common.{◌≡◌, drop}
use Rattle.css_core.specs.Elaboration.{lines_of}
use Rattle.css_expressions.proofs.Lines.{with_rest}
use Rattle.css_expressions.proofs.library.lines_of.Given as goal

abbrev pub invariant-loop-byte : goal.invariant-loop-byte
invariant-loop-byte l = with_rest l.all.items (drop l.byte-index l.bytes) ≡ lines_of l.bytes

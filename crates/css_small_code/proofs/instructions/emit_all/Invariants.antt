use Rattle.std.proofs.Common.{◌≡◌, ◌++◌, drop}
use Rattle.css_small_code.specs.Code.{in_line}
use Rattle.css_small_code.proofs.instructions.emit_all.Given as goal

abbrev pub invariant-loop-op : goal.invariant-loop-op
invariant-loop-op l = l.code.items ++ in_line l.line (drop l.op-index l.ops) ≡ l.initial.code.items ++ in_line l.line l.ops

use Rattle.std.proofs.Common.{◌≡◌, map, take}
use Rattle.css_machine_whole_tests.specs.Codes.{at_line}
use Rattle.css_machine_whole_tests.proofs.codes.body.Given as goal

abbrev pub invariant-loop-op : goal.invariant-loop-op
invariant-loop-op l = l.instrs.items ≡ map (at_line l.line) (take l.op-index l.ops)

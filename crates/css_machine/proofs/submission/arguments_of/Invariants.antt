use Rattle.std.proofs.Common.{◌≡◌, ◌++◌, map, drop}
use Rattle.css_isa.specs.Code.{narrowed_to}
use Rattle.css_isa.specs.Spaces.{bytes_of}
use Rattle.css_machine.proofs.submission.arguments_of.Given as goal

abbrev pub invariant-loop-i : goal.invariant-loop-i
invariant-loop-i l =
    l.arguments.items ++ narrowed_to (map bytes_of (drop l.i l.params)) (drop l.i l.cells) ≡ narrowed_to (map bytes_of l.params) l.cells

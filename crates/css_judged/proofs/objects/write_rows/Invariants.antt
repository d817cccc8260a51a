use Rattle.std.proofs.Common.{◌≡◌, ◌++◌, take, drop, map}
use Rattle.css_judged.specs.Objects.{as_row}
use Rattle.css_judged.proofs.objects.write_rows.Given as goal

abbrev pub invariant-loop-o : goal.invariant-loop-o
invariant-loop-o l = l.objects ≡ map (as_row l.base) (take l.o-index l.initial.objects) ++ drop l.o-index l.initial.objects

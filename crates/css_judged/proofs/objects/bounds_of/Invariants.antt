use Rattle.std.proofs.Common.{take, All}
use Rattle.css_judged.specs.Objects.{IsBetween}
use Rattle.css_judged.proofs.objects.bounds_of.Given as goal

abbrev pub invariant-loop-o : goal.invariant-loop-o
invariant-loop-o l = All (IsBetween l.low l.high) (take l.o-index l.objects)

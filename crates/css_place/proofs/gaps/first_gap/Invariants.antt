use Rattle.css_place.proofs.Passing.{IsPassed}
use Rattle.css_place.proofs.gaps.first_gap.Given as goal

abbrev pub invariant-loop-index : goal.invariant-loop-index
invariant-loop-index l =
    IsPassed (record { size = l.size; out = l.out }) l.bytes l.index l.start

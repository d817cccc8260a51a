use Rattle.std.proofs.Common.{◌≡◌, drop, map}
use Rattle.css_semantics.specs.Rules.{meets}
use Rattle.css_judged.specs.Objects.{object}
use Rattle.css_judged.proofs.objects.meets_written.Given as goal

abbrev pub invariant-loop-o : goal.invariant-loop-o
invariant-loop-o l = meets (λ o. o.is_written) (map object (drop l.o-index l.objects)) l.address l.count ≡ meets (λ o. o.is_written) (map object l.objects) l.address l.count

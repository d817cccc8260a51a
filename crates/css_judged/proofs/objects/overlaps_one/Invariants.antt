use Rattle.std.proofs.Common.{◌≡◌, drop, map}
use Rattle.std.specs.List.{list_any}
use Rattle.css_semantics.specs.Rules.{overlap}
use Rattle.css_semantics.specs.Tasks.{plain}
use Rattle.css_judged.specs.Objects.{object}
use Rattle.css_judged.proofs.objects.overlaps_one.Given as goal

abbrev pub invariant-loop-o : goal.invariant-loop-o
invariant-loop-o l = list_any (λ o. overlap (plain l.base 4) o.window) (map object (drop l.o-index l.objects)) ≡ list_any (λ o. overlap (plain l.base 4) o.window) (map object l.objects)

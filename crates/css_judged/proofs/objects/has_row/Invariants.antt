use Rattle.std.proofs.Common.{◌≡◌, drop, map}
use Rattle.std.specs.List.{list_any}
use Rattle.css_semantics.specs.Pending.{is_named_by}
use Rattle.css_judged.specs.Judged.{plain_argument}
use Rattle.css_judged.specs.Objects.{object}
use Rattle.css_judged.proofs.objects.has_row.Given as goal

abbrev pub invariant-loop-o : goal.invariant-loop-o
invariant-loop-o l = list_any (is_named_by (plain_argument l.base)) (map object (drop l.o-index l.objects)) ≡ list_any (is_named_by (plain_argument l.base)) (map object l.objects)

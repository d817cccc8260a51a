use Rattle.std.proofs.Common.{◌≡◌, take}
use Rattle.std.specs.List.{sum_by}
use Rattle.css_tags.specs.Plans.{bytes_of}
use Rattle.css_tags.specs.Groups.{planned_get}
use Rattle.css_tags.proofs.group.bytes_got.Given as goal

abbrev pub invariant-loop-item : goal.invariant-loop-item
invariant-loop-item l = l.bytes ≡ sum_by (λ item. bytes_of (planned_get item)) (take l.item-index l.items)

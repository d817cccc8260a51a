use Rattle.std.proofs.Common.{◌≡◌, take}
use Rattle.std.specs.List.{sum_by}
use Rattle.css_tags.specs.Plans.{bytes_of}
use Rattle.css_tags.specs.Groups.{planned_put}
use Rattle.css_tags.proofs.group.bytes_put.Given as goal

abbrev pub invariant-loop-block : goal.invariant-loop-block
invariant-loop-block l = l.bytes ≡ sum_by (λ item. bytes_of (planned_put item)) (take l.block-index l.blocks)

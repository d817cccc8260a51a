use Rattle.std.proofs.Common.{◌≡◌, [], slice_range}
use Rattle.std.specs.List.{flat_map}
use Rattle.css_tags.specs.Groups.{left_of}
use Rattle.css_tags.proofs.group.step_first.Given as goal

abbrev pub invariant-loop-index : goal.invariant-loop-index
invariant-loop-index l =
    (l.transfers ≡ l.initial.transfers) × (flat_map left_of (slice_range l.initial.transfers l.next l.index) ≡ [])

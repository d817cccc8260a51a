use Rattle.std.proofs.Common.{◌≡◌, ◌++◌, length, map, drop}
use Rattle.css_blocks.specs.Pieces.{row}
use Rattle.css_blocks.specs.Layout.{lower}
use Rattle.css_blocks.specs.Parts.{shape, ways_of}
use Rattle.css_blocks.proofs.lowering.+lower.Given as goal

abbrev pub invariant-loop-part : goal.invariant-loop-part
invariant-loop-part l =
    l.code.items ++ lower (row (map shape (drop l.part-index l.part-items))) (length l.code.items) (ways_of l.targets)
    ≡ l.initial.code.items ++ lower (row (map shape l.part-items)) (length l.initial.code.items) (ways_of l.targets)

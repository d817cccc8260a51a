use Rattle.std.proofs.Common.{◌≡◌, ◌+◌, map, drop}
use Rattle.css_blocks.specs.Pieces.{row}
use Rattle.css_blocks.specs.Layout.{size}
use Rattle.css_blocks.specs.Parts.{shape}
use Rattle.css_blocks.proofs.lowering.+size_of.Given as goal

abbrev pub invariant-loop-part : goal.invariant-loop-part
invariant-loop-part l = l.total + size (row (map shape (drop l.part-index l.part-items))) ≡ size (row (map shape l.part-items))

use Rattle.std.proofs.Common.{◌≡◌, length, map}
use Rattle.css_core.specs.Shapes.{piece}
use Rattle.css_types.specs.Formats.{pieces_of}
use Rattle.css_types.proofs.Pieces.{put}
use Rattle.css_types.proofs.formats.pieces_of.Given as goal

abbrev pub invariant-loop-rest : goal.invariant-loop-rest
invariant-loop-rest l = pieces_of l.format ≡ put (map piece l.all.items) (pieces_of l.rest)

abbrev pub decreases-loop-rest : goal.decreases-loop-rest
decreases-loop-rest l = length l.rest

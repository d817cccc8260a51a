use Rattle.std.proofs.Common.{arith, sym}
use Rattle.css_tags.proofs.Pieces.{piece_fits, piece_is}
use Rattle.css_tags.proofs.piece.piece_at.Goals as goal

pub overflow_mul-result : goal.overflow_mul-result
overflow_mul-result c =
    omega (arith, c.ranges.bytes, piece_fits c.args.bytes c.args.width c.args.number _ c.div_ceil-pieces.ensures c.requires.whole c.requires.number)

pub overflow_add-result : goal.overflow_add-result
overflow_add-result c =
    omega (arith, c.ranges.bytes, piece_fits c.args.bytes c.args.width c.args.number _ c.div_ceil-pieces.ensures c.requires.whole c.requires.number)

pub returns : goal.returns
returns c = rw c.min.ensures (sym (piece_is c.args.width c.args.number _ c.div_ceil-pieces.ensures))

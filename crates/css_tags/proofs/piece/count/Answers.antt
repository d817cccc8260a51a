use Rattle.css_tags.proofs.Pieces.{count_is}
use Rattle.css_tags.proofs.piece.count.Goals as goal

pub returns : goal.returns
returns c = count_is _ _ _ c.div_ceil.ensures

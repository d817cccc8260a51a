use Rattle.css_tags.proofs.Pieces.{sum_pieces}
use Rattle.css_tags.proofs.laws.pieces_cover_the_block.Goals as goal

pub returns : goal.returns
returns c = sum_pieces

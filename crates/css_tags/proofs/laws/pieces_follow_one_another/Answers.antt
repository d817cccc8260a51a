use Rattle.css_tags.proofs.Pieces.{next_piece}
use Rattle.css_tags.proofs.laws.pieces_follow_one_another.Goals as goal

pub returns : goal.returns
returns c = next_piece

use Rattle.css_tags.proofs.Pieces.{piece_small, piece_in_row}
use Rattle.css_tags.proofs.laws.piece_is_in_one_row.Goals as goal

pub returns-clause-small : goal.returns-clause-small
returns-clause-small c = piece_small

pub returns-clause-row : goal.returns-clause-row
returns-clause-row c = piece_in_row

use Rattle.css_lexemes.proofs.LinePieces.{consists}
use Rattle.css_lexemes.proofs.laws.lines_have_pieces.Goals as goal

pub returns : goal.returns
returns c = consists

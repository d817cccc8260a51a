use Rattle.std.proofs.Common.{◌∙◌, sym}
use Rattle.css_lexemes.proofs.LinePieces.{only}
use Rattle.css_lexemes.proofs.laws.pieces_are_unique.Goals as goal

pub returns : goal.returns
returns c = λ line these those a b. only line these a ∙ sym (only line those b)

use Rattle.css_blocks.proofs.Programs.{tapes_grow}
use Rattle.css_blocks.proofs.laws.tapes_of_pieces_grow.Goals as goal

pub returns : goal.returns
returns c = tapes_grow

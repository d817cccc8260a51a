use Rattle.css_blocks.proofs.Whole.{pieces_go_on}
use Rattle.css_blocks.proofs.laws.pieces_are_never_stuck.Goals as goal

pub returns : goal.returns
returns c = pieces_go_on

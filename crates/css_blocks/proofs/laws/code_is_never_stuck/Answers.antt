use Rattle.css_blocks.proofs.Whole.{code_goes_on}
use Rattle.css_blocks.proofs.laws.code_is_never_stuck.Goals as goal

pub returns : goal.returns
returns c = code_goes_on

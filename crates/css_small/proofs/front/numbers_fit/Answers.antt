use Rattle.css_small.proofs.Numbers.{program_numbers}
use Rattle.css_small.proofs.front.numbers_fit.Goals as goal

pub returns : goal.returns
returns c text p s = program_numbers s.tree p s.small

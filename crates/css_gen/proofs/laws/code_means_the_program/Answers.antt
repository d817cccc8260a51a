use Rattle.css_gen.proofs.Correct.{codes}
use Rattle.css_gen.proofs.laws.code_means_the_program.Goals as goal

pub returns : goal.returns
returns c = codes

use Rattle.std.proofs.Common.{refl}
use Rattle.css_blocks.proofs.Equations.{invoke_means}
use Rattle.css_blocks.proofs.laws.calls_find_their_arguments.Goals as goal

pub returns : goal.returns
returns c = λ w calls n base line f mode vs stack t. invoke_means w calls n base line f _ mode vs stack t refl

use Rattle.std.proofs.Common.{refl}
use Rattle.css_blocks.proofs.Equations.{submit_means}
use Rattle.css_blocks.proofs.laws.tasks_calls_find_their_dimensions.Goals as goal

pub returns : goal.returns
returns c = λ w calls n base line f mode vs ds stack t. submit_means w calls n base line f _ _ mode vs ds stack t refl refl

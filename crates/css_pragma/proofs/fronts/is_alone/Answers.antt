use Rattle.std.proofs.Common.{[]}
use Rattle.std.proofs.lemmas.Bool.{false≢true}
use Rattle.css_pragma.proofs.fronts.is_alone.Goals as goal

pub returns-in-None : goal.returns-in-None
returns-in-None c = (λ e. absurd (false≢true e), λ n. absurd (c.in-None.ensures.none [] n))

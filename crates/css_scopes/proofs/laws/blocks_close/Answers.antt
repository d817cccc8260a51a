use Rattle.css_scopes.proofs.Shown.{blocks_close}
use Rattle.css_scopes.proofs.laws.blocks_close.Goals as goal

pub returns : goal.returns
returns g c = blocks_close

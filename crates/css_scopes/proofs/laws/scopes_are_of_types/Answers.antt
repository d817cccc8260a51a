use Rattle.css_scopes.proofs.Shown.{are_of_types}
use Rattle.css_scopes.proofs.laws.scopes_are_of_types.Goals as goal

pub returns : goal.returns
returns g c = are_of_types

use Rattle.std.proofs.Common.{[], length, ap, arith}
use Rattle.css_scopes.proofs.Leaving.{length-stacked_on}
use Rattle.css_scopes.proofs.scope.Scope.len.Goals as goal

pub returns : goal.returns
returns g c =
    let many = length-stacked_on [] c.self.inside.bindings.items in
    let same = ap (λ s. length s) c.self.view_is in
    omega (arith, c.len.ensures, many, same)

use Rattle.std.proofs.Common.{ap, ◌∙◌}
use Rattle.css_scopes.specs.Firsts.{value_of}
use Rattle.css_scopes.proofs.Found.{value_of-view}
use Rattle.css_scopes.proofs.firsts.Firsts.find.Goals as goal

pub returns : goal.returns
returns g c =
    c.copied.ensures ∙ c.get.ensures.value ∙ value_of-view c.self.inside.values.entries c.args.name.now ∙ ap (λ l. value_of l c.args.name.now) c.self.view_is

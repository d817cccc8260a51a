use Rattle.std.proofs.Common.{refl, ap, ◌∙◌}
use Rattle.css_scopes.specs.Scopes.{older}
use Rattle.css_scopes.proofs.Leaving.{forgotten_table, stacked_on-older}
use Rattle.css_scopes.proofs.scope.Scope.forget.Goals as goal

pub invariant_of-self-2 : goal.invariant_of-self-2
invariant_of-self-2 g c =
    forgotten_table c.self.inside.names c.self.inside.newest.items c.pop.new.self.items c.self.inside.bindings.items c.in-Some.binding c.in-Some.binding.name.now c.restore.new.newest.items
    c.self.invariant.0 c.self.invariant.1 c.self.invariant.2 c.in-Some.ensures.items refl c.restore.ensures

pub returns : goal.returns
returns g c = stacked_on-older c.pop.new.self.items c.self.inside.bindings.items c.in-Some.binding c.in-Some.ensures.items ∙ ap older c.self.view_is

use Rattle.std.proofs.Common.{[], sym, ap, ◌∙◌}
use Rattle.css_scopes.specs.Scopes.{is_inside}
use Rattle.css_scopes.specs.Tables.{stacked_on}
use Rattle.css_scopes.proofs.Leaving.{inside_by}
use Rattle.css_scopes.proofs.scope.Scope.is_inside.Goals as goal

pub returns-in-Some : goal.returns-in-Some
returns-in-Some g c =
    sym (inside_by c.args.depth c.deref.result.now c.in-Some.newest.now c.in-Some.ensures.value)
    ∙ ap (λ bs. is_inside c.args.depth (stacked_on [] bs)) c.deref.ensures.value
    ∙ ap (is_inside c.args.depth) c.self.view_is

use Rattle.std.proofs.Common.{ap, ◌∙◌, position, bytes_eq}
use Rattle.css_scopes.proofs.Keys.{position-names}
use Rattle.css_scopes.proofs.name_set.NameSet.number_of.Goals as goal

pub returns-in-Some : goal.returns-in-Some
returns-in-Some c =
    c.in-Some.ensures.index ∙ position-names (λ k. k.now) (bytes_eq c.args.name.now) c.self.inside.texts.keys ∙ ap (position (bytes_eq c.args.name.now)) c.self.view_is

pub returns-in-None : goal.returns-in-None
returns-in-None c =
    c.in-None.ensures.index ∙ position-names (λ k. k.now) (bytes_eq c.args.name.now) c.self.inside.texts.keys ∙ ap (position (bytes_eq c.args.name.now)) c.self.view_is

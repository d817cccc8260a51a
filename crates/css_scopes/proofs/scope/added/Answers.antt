use Rattle.std.proofs.Common.{Some, [], ◌∷◌, ◌++◌, sym, ap, ◌∙◌}
use Rattle.css_scopes.specs.Names.{number_of}
use Rattle.css_scopes.specs.Tables.{at_number}
use Rattle.css_scopes.proofs.Growing.{grown_new, grown_same}
use Rattle.css_scopes.proofs.scope.added.Goals as goal

pub returns-in-Ok-clause-number : goal.returns-in-Ok-clause-number
returns-in-Ok-clause-number c =
    ap (λ l. number_of l c.args.name.now) c.in-Ok.ensures.ok ∙ grown_new c.args.names.now c.args.name.now c.requires.new ∙ ap Some (sym c.count-number.ensures)

pub returns-in-Ok-clause-same : goal.returns-in-Ok-clause-same
returns-in-Ok-clause-same c = λ q.
    ap (λ l. at_number c.push.new.self.items (number_of l q)) c.in-Ok.ensures.ok
    ∙ ap (λ l. at_number l (number_of (c.args.names.now ++ c.args.name.now ∷ []) q)) c.in_ok-push.ensures.items
    ∙ grown_same c.args.names.now c.args.newest.now.items c.args.name.now c.requires.long q

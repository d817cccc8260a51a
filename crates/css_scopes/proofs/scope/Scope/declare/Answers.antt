use Rattle.std.proofs.Common.{[], ◌∷◌, length, refl, ap, ◌∙◌}
use Rattle.css_scopes.specs.Tables.{stacked_on}
use Rattle.css_scopes.proofs.Leaving.{declared_table, stacked_on-last}
use Rattle.css_scopes.proofs.scope.Scope.declare.Goals as goal

pub invariant_of-self-2 : goal.invariant_of-self-2
invariant_of-self-2 g c =
    declared_table c.number_in.new.names c.number_in.new.newest.items c.as_slice-2.result.now c.self.inside.bindings.items c.push.new.self.items
    (record { name = c.args.name; depth = c.args.depth; hidden = c.entry_at-hidden.result; meaning = c.args.meaning })
    c.in_ok-number.number c.in_ok-place.place c.args.name.now c.in_ok-number.ensures.number c.in_ok-number.ensures.within c.in_ok-number.ensures.long
    (λ q. c.in_ok-number.ensures.same q ∙ c.self.invariant.1 q) c.self.invariant.2 refl c.entry_at-hidden.ensures c.as_slice-2.ensures.value
    (c.in_ok-place.ensures ∙ ap (λ l. length l) c.as_slice.ensures.value) c.in_ok-push.ensures.items

pub returns-clause-ok : goal.returns-clause-ok
returns-clause-ok g c =
    ap (stacked_on []) c.in_ok-push.ensures.items
    ∙ stacked_on-last [] c.self.inside.bindings.items (record { name = c.args.name; depth = c.args.depth; hidden = c.entry_at-hidden.result; meaning = c.args.meaning })
    ∙ ap (λ l. record { name = c.args.name.now; depth = c.args.depth; meaning = c.args.meaning } ∷ l) c.self.view_is

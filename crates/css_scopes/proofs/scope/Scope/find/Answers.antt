use Rattle.std.proofs.Common.{rules, sym, ap, ◌∙◌}
use Rattle.css_scopes.specs.Scopes.{found}
use Rattle.css_scopes.proofs.Tables.{none_found, is_within, is_found, looked_up}
use Rattle.css_scopes.proofs.scope.Scope.find.Goals as goal

pub index-requires : goal.index-requires
index-requires g c =
    let looked = looked_up c.self.inside.names c.self.inside.newest.items c.as_slice.result.now c.self.inside.bindings.items c.args.name.now c.newest_place.result c.self.invariant.1 c.as_slice.ensures.value c.newest_place.ensures in
    search (rules, is_within c.self.inside.bindings.items c.args.name.now c.in-Some.place (looked ∙ c.in-Some.is))

pub returns-in-Some : goal.returns-in-Some
returns-in-Some g c =
    let looked = looked_up c.self.inside.names c.self.inside.newest.items c.as_slice.result.now c.self.inside.bindings.items c.args.name.now c.newest_place.result c.self.invariant.1 c.as_slice.ensures.value c.newest_place.ensures in
    sym (is_found c.self.inside.bindings.items c.args.name.now c.in-Some.place c.index.result.now (looked ∙ c.in-Some.is) c.index.ensures)
    ∙ ap (λ bs. found bs c.args.name.now) c.self.view_is

pub returns-in-None : goal.returns-in-None
returns-in-None g c =
    let looked = looked_up c.self.inside.names c.self.inside.newest.items c.as_slice.result.now c.self.inside.bindings.items c.args.name.now c.newest_place.result c.self.invariant.1 c.as_slice.ensures.value c.newest_place.ensures in
    sym (none_found c.self.inside.bindings.items c.args.name.now (looked ∙ c.in-None.is)) ∙ ap (λ bs. found bs c.args.name.now) c.self.view_is

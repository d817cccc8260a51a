use Rattle.std.proofs.Common.{◌≡◌, List, ℕ, false, Bor, bytes_eq, [], ◌∷◌, ◌++◌, Result, Ok, Err, IfOk, is_err, map, sym, ap, ◌∙◌}
use Rattle.std.proofs.lemmas.List.{map-append}
use Rattle.indexmap.proofs.CallerLemmas.{insert_entry-new}
use Rattle.css_scopes.specs.Firsts.{value_of}
use Rattle.css_scopes.proofs.Found.{value_of-view}
use Rattle.css_scopes.proofs.firsts.Firsts.add_new.Goals as goal

at_ok : {A E P : Type 0} (r : Result A E) → false ≡ is_err r → IfOk r (λ _. P) → P
at_ok (Ok x) e h = h
at_ok (Err x) e h = absurd cc

pub returns-clause-ok : goal.returns-clause-ok
returns-clause-ok g c =
    let absent = value_of-view c.self.inside.values.entries c.args.name.now ∙ ap (λ l. value_of l c.args.name.now) c.self.view_is ∙ c.requires in
    let entries = at_ok c.insert.result (sym c.if-is_err.false ∙ c.is_err.ensures.value) c.insert.ensures.entries
    ∙ insert_entry-new (λ (a b : Bor (List ℕ)). bytes_eq a.now b.now) c.self.inside.values c.args.name c.args.value absent in
    ap (map (λ e. (e.0.now, e.1))) entries
    ∙ map-append (λ e. (e.0.now, e.1)) c.self.inside.values.entries ((c.args.name, c.args.value) ∷ [])
    ∙ ap (λ l. l ++ (c.args.name.now, c.args.value) ∷ []) c.self.view_is

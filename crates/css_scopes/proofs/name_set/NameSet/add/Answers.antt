use Rattle.std.proofs.Common.{◌≡◌, false, Result, Ok, Err, IfOk, is_err, sym, ap, ◌∙◌, ◌++◌, ◌∷◌, [], map}
use Rattle.css_scopes.specs.Names.{is_among}
use Rattle.css_scopes.proofs.Keys.{insert_key-new}
use Rattle.css_scopes.proofs.name_set.NameSet.add.Goals as goal

at_ok : {A E P : Type 0} (r : Result A E) → false ≡ is_err r → IfOk r (λ _. P) → P
at_ok (Ok x) e h = h
at_ok (Err x) e h = absurd cc

pub returns-clause-ok : goal.returns-clause-ok
returns-clause-ok c =
    let names = c.self.view_is in
    let fresh : is_among (map (λ k. k.now) c.self.inside.texts.keys) c.args.name.now ≡ false =
    ap (λ l. is_among l c.args.name.now) names ∙ c.requires.new in
    let keys = at_ok c.insert.result (sym c.if-is_err.false ∙ c.is_err.ensures.value) c.insert.ensures.keys in
    ap (map (λ k. k.now)) keys ∙ insert_key-new (λ k. k.now) c.self.inside.texts.keys c.args.name fresh ∙ ap (λ l. l ++ c.args.name.now ∷ []) names

use Rattle.std.proofs.Common.{◌≡◌, false, Result, Ok, Err, IfOk, is_err, sym, ap, ◌∙◌, ◌++◌, ◌∷◌, [], map}
use Rattle.css_small.specs.Names.{is_among}
use Rattle.css_small.proofs.Keys.{insert_key-new}
use Rattle.css_small.proofs.name_set.NameSet.add.Goals as goal

at_ok : {A E P : Type 0} (r : Result A E) → false ≡ is_err r → IfOk r (λ _. P) → P
at_ok (Ok x) e h = h
at_ok (Err x) e h = absurd cc

pub returns-clause-ok : goal.returns-clause-ok
returns-clause-ok c =
    let names = c.self.view_is in
    let text : c.in-Ok.text.items ≡ c.args.name.now = c.in-Ok.ensures.items in
    let fresh : is_among (map (λ k. k.items) c.self.inside.texts.keys) c.in-Ok.text.items ≡ false =
    ap (λ l. is_among l c.in-Ok.text.items) names ∙ ap (is_among c.args.self.now) text ∙ c.requires.new in
    let keys = at_ok c.insert.result (sym c.if-is_err.false ∙ c.is_err.ensures.value) c.insert.ensures.keys in
    ap (map (λ k. k.items)) keys ∙ insert_key-new (λ k. k.items) c.self.inside.texts.keys c.in-Ok.text fresh ∙ ap (λ l. l ++ c.in-Ok.text.items ∷ []) names ∙ ap (λ n. c.args.self.now ++ n ∷ []) text

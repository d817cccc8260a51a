use Rattle.std.proofs.Common.{[], ◌∷◌, map, ap, ◌∙◌, arith}
use Rattle.std.proofs.lemmas.List.{map-append, length-map}
use Rattle.css_scopes.proofs.Found.{more_places}
use Rattle.css_scopes.proofs.places.Places.add.Goals as goal

pub invariant_of-self-in-Ok : goal.invariant_of-self-in-Ok
invariant_of-self-in-Ok c = λ q.
    more_places c.self.inside.first c.add.new.self (map (λ name. name.now) c.self.inside.all.items) (map (λ name. name.now) c.push.new.self.items) c.args.name.now c.len-place.result
    c.self.invariant (let many = length-map c.self.inside.all.items (λ name. name.now) in omega (arith, c.len-place.ensures, many))
    (ap (map (λ name. name.now)) c.in_ok-push.ensures.items ∙ map-append (λ name. name.now) c.self.inside.all.items (c.args.name ∷ [])) c.in-Ok.ensures.ok q

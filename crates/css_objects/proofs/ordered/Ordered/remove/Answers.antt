use Rattle.std.proofs.Common.{◌≡◌, ℕ, List, length, map, sym, subst, ◌∙◌, ap, arith}
use Rattle.std.specs.List.{remove}
use Rattle.std.proofs.lemmas.List.{length-map}
use Rattle.css_record.specs.declared.window.Window.{Window}
use Rattle.css_objects.specs.Ordered.{IsAscending, IsInOrder}
use Rattle.css_objects.proofs.Edits.{map-remove, in_order_without}
use Rattle.css_objects.proofs.ordered.Ordered.remove.Goals as goal

pub invariant_of-self : goal.invariant_of-self
invariant_of-self c =
    let es = c.self.inside.windows.entries in
    let long : length c.args.self.now ≡ length es = ap length (sym c.self.view_is) ∙ length-map es (λ e. e.1) in
    subst (λ (xs : List (ℕ × Window)). IsInOrder (map (λ e. e.0) xs) (map (λ e. e.1) xs)) (sym c.shift_remove_index-removed.ensures.entries)
    (in_order_without es c.args.place (omega (arith, c.requires, long)) c.self.invariant)

pub returns-clause-rest : goal.returns-clause-rest
returns-clause-rest c =
    let es = c.self.inside.windows.entries in
    ap (λ (xs : List (ℕ × Window)). map (λ e. e.1) xs) c.shift_remove_index-removed.ensures.entries ∙ map-remove (λ (e : ℕ × Window). e.1) es c.args.place ∙ ap (λ ws. remove ws c.args.place) c.self.view_is

pub returns-clause-ascends : goal.returns-clause-ascends
returns-clause-ascends c =
    let es = c.self.inside.windows.entries in
    let long : length c.args.self.now ≡ length es = ap length (sym c.self.view_is) ∙ length-map es (λ e. e.1) in
    subst (λ (xs : List (ℕ × Window)). IsAscending (map (λ e. e.1) xs)) (sym c.shift_remove_index-removed.ensures.entries)
    (in_order_without es c.args.place (omega (arith, c.requires, long)) c.self.invariant).ascends

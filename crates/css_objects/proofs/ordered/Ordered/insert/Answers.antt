use Rattle.std.proofs.Common.{ℕ, List, map, Option, IsSome, sym, subst, ap, ◌∙◌}
use Rattle.std.specs.List.{insert}
use Rattle.std.proofs.lemmas.Bool.{false≢true}
use Rattle.css_record.specs.declared.window.Window.{Window}
use Rattle.css_objects.specs.Ordered.{IsAscending, IsInOrder, IsGap, HasNone}
use Rattle.css_objects.proofs.Inserts.{map-insert, in_order_with, new_entry, no_key}
use Rattle.css_objects.proofs.ordered.Ordered.insert.Goals as goal

pub shift_insert-requires-clause-below_len : goal.shift_insert-requires-clause-below_len
shift_insert-requires-clause-below_len g c has =
    let es = c.self.inside.windows.entries in
    let absent = no_key es c.args.window.base c.self.invariant (subst (λ (ws : List Window). HasNone ws c.args.window.base) (sym c.self.view_is) c.requires) in
    absurd (false≢true (subst (λ (o : Option Window). IsSome o) absent has))

pub invariant_of-self-2 : goal.invariant_of-self-2
invariant_of-self-2 g c =
    let es = c.self.inside.windows.entries in
    let absent = no_key es c.args.window.base c.self.invariant (subst (λ (ws : List Window). HasNone ws c.args.window.base) (sym c.self.view_is) c.requires) in
    let gap = subst (λ (ws : List Window). IsGap ws c.gap-place.result c.args.window.base) (sym c.self.view_is) c.gap-place.ensures.gap in
    subst (λ (xs : List (ℕ × Window)). IsInOrder (map (λ e. e.0) xs) (map (λ e. e.1) xs))
    (sym (c.in_ok-_none.ensures.entries ∙ new_entry c.args.window.base c.args.window es c.gap-place.result absent))
    (in_order_with es c.gap-place.result c.args.window gap c.self.invariant)

pub returns-clause-ok : goal.returns-clause-ok
returns-clause-ok g c =
    let es = c.self.inside.windows.entries in
    let absent = no_key es c.args.window.base c.self.invariant (subst (λ (ws : List Window). HasNone ws c.args.window.base) (sym c.self.view_is) c.requires) in (
      c.gap-place.ensures.gap,
      ap (λ (xs : List (ℕ × Window)). map (λ e. e.1) xs) (c.in_ok-_none.ensures.entries ∙ new_entry c.args.window.base c.args.window es c.gap-place.result absent)
          ∙ map-insert (λ (e : ℕ × Window). e.1) es c.gap-place.result (c.args.window.base, c.args.window)
          ∙ ap (λ ws. insert ws c.gap-place.result c.args.window) c.self.view_is,
    )

pub returns-clause-ascends : goal.returns-clause-ascends
returns-clause-ascends g c =
    let es = c.self.inside.windows.entries in
    let absent = no_key es c.args.window.base c.self.invariant (subst (λ (ws : List Window). HasNone ws c.args.window.base) (sym c.self.view_is) c.requires) in
    let gap = subst (λ (ws : List Window). IsGap ws c.gap-place.result c.args.window.base) (sym c.self.view_is) c.gap-place.ensures.gap in
    subst (λ (xs : List (ℕ × Window)). IsAscending (map (λ e. e.1) xs))
    (sym (c.in_ok-_none.ensures.entries ∙ new_entry c.args.window.base c.args.window es c.gap-place.result absent))
    (in_order_with es c.gap-place.result c.args.window gap c.self.invariant).ascends

use Rattle.std.proofs.lemmas.Option.{slice_get_within, get_or_from_slice_get}
use Rattle.css_place.specs.Places.{Store}
use Rattle.css_place.proofs.Placing.{placed_less, remove_removes}
use Rattle.css_place.proofs.placer.Placer.release.Goals as goal

pub invariant_of-self : goal.invariant_of-self
invariant_of-self c =
    let store : Store = record { size = c.self.inside.size; out = c.self.inside.out.items } in
    let is = rw c.as_slice.ensures.value at c.number_of-index.ensures in
    rw c.remove.ensures.items (placed_less store c.number_of-index.result c.self.invariant
    (slice_get_within store.out _ _ is))

pub returns : goal.returns
returns c =
    let store : Store = record { size = c.self.inside.size; out = c.self.inside.out.items } in
    let is = rw (c.as_slice.ensures.value, c.stretch.ensures) at c.number_of-index.ensures in
    let below = slice_get_within store.out _ _ is in
    rw (c.remove.ensures.items, ← c.self.view_is) (remove_removes store c.number_of-index.result c.args.place
    below (get_or_from_slice_get store.out _ _ c.args.place is))

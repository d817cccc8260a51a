use Rattle.css_place.proofs.Holding.{held_more}
use Rattle.css_leaf_tests.proofs.place.Holder.place.Goals as goal

pub invariant_of-self : goal.invariant_of-self
invariant_of-self c = rw c.reserve.ensures.items c.self.invariant

pub invariant_of-self-in_default : goal.invariant_of-self-in_default
invariant_of-self-in_default c = rw (c.in_default.ensures.unchanged, c.reserve.ensures.items) c.self.invariant

pub invariant_of-self-2 : goal.invariant_of-self-2
invariant_of-self-2 c =
    rw (c.push_reserved.ensures.items, c.reserve.ensures.items)
    (held_more c.self.inside.placer c.place.new.self c.in-Ok.place c.self.inside.places.items c.placed.ensures
    c.in-Ok.ensures.out c.self.invariant)

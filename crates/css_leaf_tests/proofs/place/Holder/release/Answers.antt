use Rattle.std.proofs.Common.{◌<◌, length, Contains, subst, sym, arith}
use Rattle.css_place.proofs.Holding.{held_less}
use Rattle.css_leaf_tests.proofs.place.Holder.release.Goals as goal

pub release-requires : goal.release-requires
release-requires c =
    let below : c.args.number < length c.self.inside.places.items = omega arith in
    subst (Contains c.self.inside.placer.out) (sym c.remove-place.ensures.value)
    (c.self.invariant.0 c.args.number c.remove-place.result below)

pub invariant_of-self : goal.invariant_of-self
invariant_of-self c =
    let below : c.args.number < length c.self.inside.places.items = omega arith in
    rw c.remove-place.ensures.items
    (held_less c.self.inside.placer c.release.new.self c.remove-place.result c.self.inside.places.items
    c.args.number c.release.ensures below (sym c.remove-place.ensures.value) c.self.invariant)

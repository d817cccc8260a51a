use Rattle.std.proofs.Common.{inl, inr, arith}
use Rattle.std.proofs.lemmas.Bool.Decides.{nat_tests}
use Rattle.css_judged.proofs.NearObjects.{items_apart}
use Rattle.css_judged.proofs.objects.Objects.is_near.Goals as goal

pub returns-then-from-self : goal.returns-then-from-self
returns-then-from-self c = λ far.
    let m = c.self.inside in
    items_apart m.low m.high c.args.address c.args.count m.items.items c.args.self.now c.self.invariant c.self.view_is (inr (grind (arith, nat_tests, far)))

pub returns-else-from-self : goal.returns-else-from-self
returns-else-from-self c = λ far.
    let m = c.self.inside in
    items_apart m.low m.high c.args.address c.args.count m.items.items c.args.self.now c.self.invariant c.self.view_is (inl (grind (arith, nat_tests, far)))

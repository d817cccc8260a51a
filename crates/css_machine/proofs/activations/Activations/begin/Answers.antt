use Rattle.std.proofs.Common.{◌≡◌, ◌≤◌, length, reverse, ap, arith}
use Rattle.std.proofs.lemmas.List.{length-take-le}
use Rattle.css_machine.proofs.Callers.{within_more}
use Rattle.css_machine.proofs.activations.Activations.begin.Goals as goal

pub invariant_of-self : goal.invariant_of-self
invariant_of-self c =
    let old = c.self.inside.stack in
    let new = c.begin-floor.new.self in
    let floor = c.begin-floor.result in
    let shorter : length old.below ≤ length new.below = omega (arith, ap length c.begin-floor.ensures.below, length-take-le floor new.below c.begin-floor.ensures.floor, c.begin-floor.ensures.floor) in
    let same : c.push.new.self.items ≡ c.self.inside.callers.items = c.in_err-push.ensures.items in
    rw same (within_more (reverse c.self.inside.callers.items) (length old.below) (length new.below) shorter c.self.invariant)

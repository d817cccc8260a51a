use Rattle.std.proofs.Common.{◌+◌, ◌-◌, ◌/◌, refl, arith}
use Rattle.css_objects.proofs.Searches.{halves_above, halves_below, ends}
use Rattle.css_objects.proofs.ordered.Ordered.last_below.Goals as goal

pub loop-low-preserved-then-from-end : goal.loop-low-preserved-then-from-end
loop-low-preserved-then-from-end g c =
    rw c.at-window.ensures.step
    (halves_above c.args.self.now c.args.end c.args.steps.now c.loop-low.steps c.loop-low.low c.loop-low.high c.loop-low.found c.loop-low.invariant c.loop-low-test.true
    (record { place = c.loop-low.low + (c.loop-low.high - c.loop-low.low) / 2; window = c.at-window.result.now })
    refl c.at-window.ensures.value (omega arith))

pub loop-low-preserved : goal.loop-low-preserved
loop-low-preserved g c =
    rw c.at-window.ensures.step
    (halves_below c.args.self.now c.args.end c.args.steps.now c.loop-low.steps c.loop-low.low c.loop-low.high c.loop-low.found c.loop-low.invariant c.loop-low-test.true
    (record { place = c.loop-low.low + (c.loop-low.high - c.loop-low.low) / 2; window = c.at-window.result.now })
    c.len-high.ensures.ascends refl c.at-window.ensures.value (omega arith))

pub returns-clause-found : goal.returns-clause-found
returns-clause-found g c =
    ends c.args.self.now c.args.end c.args.steps.now c.loop-low.steps c.loop-low.low c.loop-low.high c.loop-low.found c.len-high.ensures.ascends c.loop-low.invariant c.loop-low-test.false

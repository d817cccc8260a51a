use Rattle.std.proofs.Common.{rules}
use Rattle.css_judged.proofs.NearObjects.{bounds_more, bounds_all}
use Rattle.css_judged.proofs.objects.bounds_of.Goals as goal

pub loop-o-preserved : goal.loop-o-preserved
loop-o-preserved c =
    let l = c.loop-o in
    bounds_more l.low l.high c.min-low.result c.max-high.result c.args.objects.now l.o-index c.loop-o-test.true l.invariant
    (search rules) (search rules) (search rules, search rules)

pub returns : goal.returns
returns c = bounds_all c.loop-o.low c.loop-o.high c.args.objects.now c.loop-o.o-index c.loop-o-test.false c.loop-o.invariant

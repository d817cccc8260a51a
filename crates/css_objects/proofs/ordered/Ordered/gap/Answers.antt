use Rattle.css_objects.specs.Ordered.{IsLastBelow}
use Rattle.css_objects.proofs.Inserts.{gap_behind}
use Rattle.css_objects.proofs.ordered.Ordered.gap.Goals as goal

pub returns-in-Some-clause-gap : goal.returns-in-Some-clause-gap
returns-in-Some-clause-gap g c =
    let last : IsLastBelow c.args.self.now c.args.base c.in-Some.f = rw c.from.ensures at c.in-Some.ensures.found in
    gap_behind c.args.self.now c.args.base c.in-Some.f last c.requires

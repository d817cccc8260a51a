use Rattle.std.proofs.Common.{◌+◌}
use Rattle.css_objects.specs.Ordered.{IsLastBelow}
use Rattle.css_objects.proofs.Searches.{none_but_last}
use Rattle.css_objects.proofs.ordered.Ordered.find.Goals as goal

pub returns-else-found-base-clause-found : goal.returns-else-found-base-clause-found
returns-else-found-base-clause-found g c =
    let last : IsLastBelow c.args.self.now (c.args.base + 1) c.in_ok-found.found = rw c.from.ensures at c.in_ok-found.ensures.found in
    none_but_last c.args.self.now c.args.base c.in_ok-found.found last c.if-found-base.false

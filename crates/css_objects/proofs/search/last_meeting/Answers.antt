use Rattle.std.proofs.Common.{arith}
use Rattle.css_objects.proofs.OneRowSearches.{none_meets, none_before, last_meets}
use Rattle.css_objects.proofs.search.last_meeting.Goals as goal

pub returns-in_err-found-clause-found : goal.returns-in_err-found-clause-found
returns-in_err-found-clause-found g c =
    rw c.from_residual.ensures (none_meets c.args.rows.now c.requires c.args.from c.args.to c.in_err-found.ensures.found)

pub returns-then-from-end-clause-found : goal.returns-then-from-end-clause-found
returns-then-from-end-clause-found g c =
    last_meets c.args.rows.now c.requires c.args.from c.args.to c.in_ok-found.found c.in_ok-found.ensures.found (omega arith)

pub returns-else-from-end-clause-found : goal.returns-else-from-end-clause-found
returns-else-from-end-clause-found g c =
    none_before c.args.rows.now c.requires c.args.from c.args.to c.in_ok-found.found c.in_ok-found.ensures.found (omega arith)

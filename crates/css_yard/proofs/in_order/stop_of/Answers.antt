use Rattle.std.proofs.Common.{sym}
use Rattle.css_yard.proofs.Stops.{stopped_has_first}
use Rattle.css_yard.proofs.in_order.stop_of.Goals as goal

pub unreachable-requires : goal.unreachable-requires
unreachable-requires c = stopped_has_first c.args.tasks.now (sym (c.in-None.ensures {u = tt})) c.requires

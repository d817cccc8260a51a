use Rattle.std.proofs.Common.{◌≡◌, [], None, sym}
use Rattle.css_yard.specs.Kept.{first_stop, values_at}
use Rattle.css_yard.proofs.Stops.{stopped_has_first}
use Rattle.css_yard.proofs.in_order.settle_from.Goals as goal

pub unreachable-requires : goal.unreachable-requires
unreachable-requires c =
    let missing : values_at c.args.tasks.now [] c.args.keep.now ≡ None = rw (← c.in_ok-values.ensures {u = tt}, c.in-None.is) in
    let none : first_stop c.args.tasks.now ≡ None = sym (c.in_default.ensures {u = tt}) in
    stopped_has_first c.args.tasks.now none (c.requires missing)

use Rattle.std.proofs.Common.{◌&&◌, sym}
use Rattle.css_semantics.specs.Pending.{some_from}
use Rattle.css_semantics.specs.Tasks.{has_byte}
use Rattle.css_judged.specs.Objects.{object}
use Rattle.css_judged.proofs.NearObjects.{nothing, any_found}
use Rattle.css_judged.proofs.objects.meets_written.Goals as goal

pub returns-then-meets : goal.returns-then-meets
returns-then-meets c =
    sym (any_found object (λ o. o.is_written && some_from (has_byte o.window) c.args.address c.args.count) c.args.objects.now c.loop-o.o-index nothing c.loop-o-test.true (rw c.if-o.true (sym c.if-meets.ensures)))

use Rattle.std.proofs.Common.{true, ◌&&◌, sym, ◌∙◌}
use Rattle.css_semantics.specs.Pending.{some_from}
use Rattle.css_semantics.specs.Tasks.{has_byte}
use Rattle.css_judged.specs.Objects.{object}
use Rattle.css_judged.proofs.NearObjects.{nothing, any_found, any_passed}
use Rattle.css_judged.proofs.objects.meets_any.Goals as goal

pub returns-then-meets : goal.returns-then-meets
returns-then-meets c =
    sym (any_found object (λ o. true && some_from (has_byte o.window) c.args.address c.args.count) c.args.objects.now c.loop-o.o-index nothing c.loop-o-test.true (sym c.if-meets.ensures))

pub loop-o-preserved : goal.loop-o-preserved
loop-o-preserved c =
    any_passed object (λ o. true && some_from (has_byte o.window) c.args.address c.args.count) c.args.objects.now c.loop-o.o-index nothing c.loop-o-test.true (sym c.if-meets.ensures)
    ∙ c.loop-o.invariant

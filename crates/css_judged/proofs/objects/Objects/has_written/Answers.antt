use Rattle.std.proofs.Common.{sym, ◌∙◌}
use Rattle.css_judged.proofs.NearObjects.{none_met}
use Rattle.css_judged.proofs.objects.Objects.has_written.Goals as goal

pub returns-else-is_near : goal.returns-else-is_near
returns-else-is_near c = c.if-is_near.false ∙ sym (none_met (λ o. o.is_written) c.args.self.now c.args.address c.args.count (c.is_near.ensures c.if-is_near.false))

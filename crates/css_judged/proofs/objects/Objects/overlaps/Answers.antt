use Rattle.std.proofs.Common.{sym, ◌∙◌}
use Rattle.css_judged.proofs.NearObjects.{none_overlap}
use Rattle.css_judged.proofs.objects.Objects.overlaps.Goals as goal

pub returns-else-is_near : goal.returns-else-is_near
returns-else-is_near c = c.if-is_near.false ∙ sym (none_overlap c.args.base c.args.self.now (c.is_near.ensures c.if-is_near.false))

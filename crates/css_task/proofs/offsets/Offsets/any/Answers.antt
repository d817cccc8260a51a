use Rattle.std.proofs.Common.{sym, ◌∙◌, arith}
use Rattle.css_task.specs.OffsetSets.{has_bit}
use Rattle.css_task.proofs.CellAccess.{one_passes, none_more}
use Rattle.css_task.proofs.offsets.Offsets.any.Goals as goal

pub returns-then-has : goal.returns-then-has
returns-then-has c = sym (one_passes (has_bit c.args.self.now.words.items) c.args.from c.args.count c.loop-k.k (omega arith) (sym c.has.ensures ∙ c.if-has.true))

pub loop-k-preserved : goal.loop-k-preserved
loop-k-preserved c = none_more (has_bit c.args.self.now.words.items) c.args.from c.loop-k.k c.loop-k.invariant (sym c.has.ensures ∙ c.if-has.false)

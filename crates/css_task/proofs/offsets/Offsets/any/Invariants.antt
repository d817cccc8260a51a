use Rattle.std.proofs.Common.{◌≡◌, false}
use Rattle.css_semantics.specs.Pending.{some_from}
use Rattle.css_task.specs.OffsetSets.{has_bit}
use Rattle.css_task.proofs.offsets.Offsets.any.Given as goal

abbrev pub invariant-loop-k : goal.invariant-loop-k
invariant-loop-k l = some_from (has_bit l.self.words.items) l.from l.k ≡ false

use Rattle.std.proofs.Common.{◌≡◌, ◌+◌, ◌||◌, length, ℕ}
use Rattle.css_semantics.specs.Memory.{is_between}
use Rattle.css_task.specs.OffsetSets.{has_bit}
use Rattle.css_task.proofs.offsets.Offsets.add_all.Given as goal

abbrev pub invariant-loop-k : goal.invariant-loop-k
invariant-loop-k l = record {
  room : length l.self.words.items ≡ length l.initial.self.words.items;
  has : (n : ℕ) → has_bit l.self.words.items n ≡ (is_between l.from (l.from + l.k) n || has_bit l.initial.self.words.items n);
}

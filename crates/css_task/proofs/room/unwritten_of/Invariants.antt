use Rattle.std.proofs.Common.{◌≡◌, ◌≤◌, ◌*◌, false, ℕ, length, take, get_or}
use Rattle.css_task.specs.OffsetSets.{has_bit}
use Rattle.css_task.specs.Cells.{flags}
use Rattle.css_task.specs.Placing.{uses_of}
use Rattle.css_task.specs.GivenBytes.{is_new}
use Rattle.css_task.proofs.room.unwritten_of.Given as goal

abbrev pub invariant-loop-placed : goal.invariant-loop-placed
invariant-loop-placed l = record {
  room : l.fn.count ≤ 64 * length l.unwritten.words.items;
  has : (k : ℕ) → has_bit l.unwritten.words.items k ≡ get_or (flags is_new (uses_of (take l.placed-index l.all))) k false;
}

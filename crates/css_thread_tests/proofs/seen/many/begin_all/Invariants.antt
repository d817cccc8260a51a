use Rattle.std.proofs.Common.{◌≡◌, ◌+◌, ◌<◌, ℕ, [], vec_len, slice_index_or}
use Rattle.std.specs.Arc.{arc_value}
use Rattle.css_seen.specs.Accounts.{HasMade}
use Rattle.css_thread_tests.proofs.seen.many.begin_all.Given as goal

abbrev pub invariant-loop-i : goal.invariant-loop-i
invariant-loop-i g l = record {
  fresh : HasMade (arc_value l.lock) 0 [] l.pass;
  splits : l.pass.splits ≡ l.i;
  fixed : l.pass.fixed ≡ l.initial.pass.fixed;
  len : vec_len l.children ≡ l.i;
  each : (k : ℕ) (d : _) → k < l.i → HasMade (arc_value l.lock) (k + 1) [] (slice_index_or l.children.items k d).promise.start.value × ((slice_index_or l.children.items k d).promise.cell ≡ l.cell);
}

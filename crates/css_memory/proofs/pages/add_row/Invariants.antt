use Rattle.std.proofs.Common.{◌≡◌, ℕ, ◌+◌, ◌*◌, ◌≤◌, ◌<◌, length, slice_index}
use Rattle.css_memory.specs.Pages.{shared}
use Rattle.css_memory.proofs.pages.add_row.Given as goal

abbrev pub invariant-loop-page : goal.invariant-loop-page
invariant-loop-page l = record {
  done : (k : ℕ) → k < l.page → k < length l.counts → slice_index l.counts k ≡ slice_index l.initial.counts k + shared l.from l.to (4096 * k) (4096 * k + 4096);
  rest : (k : ℕ) → l.page ≤ k → k < length l.counts → slice_index l.counts k ≡ slice_index l.initial.counts k;
}

use Rattle.std.proofs.Common.{◌≡◌, ℕ, ◌≤◌, ◌<◌, length, slice_index}
use Rattle.css_memory.proofs.pages.has_some.Given as goal

abbrev pub invariant-loop-page : goal.invariant-loop-page
invariant-loop-page l = (k : ℕ) → l.first ≤ k → k < l.page → k < length l.counts → slice_index l.counts k ≡ 0

use Rattle.std.proofs.Common.{◌≡◌, ◌≤◌, length, vec_len, vec_capacity}
use Rattle.css_tags.proofs.staged.buffers_of.Given as goal

abbrev pub invariant-loop-copy : goal.invariant-loop-copy
invariant-loop-copy l =
    (l.buffers.items ≡ l.yielded) × (vec_len l.buffers ≡ length l.yielded) × (vec_len l.fn.copies ≤ vec_capacity l.buffers)

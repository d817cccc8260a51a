-- Counts of faults over several calls.
use Rattle.std.proofs.Common.{ℕ, ◌≤◌, inl, inr, arith}
use Rattle.css_io.specs.Outside.{Rose}

-- a rise in the last call is a rise in all
pub Rose-after : (before between after : ℕ) → before ≤ between → Rose between after → Rose before after
Rose-after before between after kept (inl rose) = inl (omega arith)
Rose-after before between after kept (inr full) = inr full

-- A task's stack as code keeps it.
use Rattle.std.specs.Prelude.{◌≡◌, ℕ, ◌+◌, ◌^◌, ◌<◌, ◌≤◌, List, drop, length}
use Rattle.css_semantics.specs.TaskSpaces.{total}

-- The stack is what 16,384 bytes have from an index on, and the frames are what 1,024 sizes have from another.
pub record IsStack (end start innermost : ℕ) (stack sizes : List ℕ) : Type 0 where
  pub sum : start + total (drop innermost sizes) ≡ 16384
  pub long : length stack ≡ 16384
  pub within : innermost ≤ 1024
  pub many : length sizes ≡ 1024
  pub room : 16384 ≤ end
  pub small : end < 2 ^ 32

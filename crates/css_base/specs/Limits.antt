-- The ranges of a run's limits.
use Rattle.std.specs.Prelude.{◌≡◌, ◌≤◌, ◌%◌, ◌^◌}
use Rattle.css_base.specs.declared.limits.Limits.{Limits}

-- each limit is in its range
pub record IsInRange (l : Limits) : Type 0 where
  pub workers : (1 ≤ l.workers) × (l.workers ≤ 16)
  pub bundle : (1 ≤ l.bundle) × (l.bundle ≤ 8)
  pub local_store : (32768 ≤ l.local_store) × (l.local_store ≤ 1048576)
  pub step : l.local_store % 128 ≡ 0
  pub memory : (2097152 ≤ l.memory) × (l.memory ≤ 268435456)
  pub main_units : (1 ≤ l.main_units) × (l.main_units ≤ 2 ^ 40)
  pub task_units : (1 ≤ l.task_units) × (l.task_units ≤ 2 ^ 40)

-- There are confined programs, and others that aren't.
use Rattle.std.proofs.Common.{◌≡◌, ℕ, zero, suc, Bool, true, false, ◌&&◌, IsTrue, Some, refl}
use Rattle.std.specs.Prelude.{slice_get}
use Rattle.css_core.specs.Core.{Task, Function}
use Rattle.css_core.specs.Confined.{are_inner_statements, is_no_task, IsConfined}
use Rattle.css_core.specs.TaskSamples.{adds_to_block, calls_inside}

abbrev inner : ℕ → Bool
inner zero = true
inner (suc k) = false

only_first : (number : ℕ) (f : Function) (task : Task) → slice_get adds_to_block.functions number ≡ Some f → f.task ≡ Some task → IsTrue (inner number)
only_first zero f task e is = refl
only_first (suc zero) f task e is = cc
only_first (suc (suc k)) f task e is = cc

first_inner : (number : ℕ) (f : Function) → slice_get adds_to_block.functions number ≡ Some f → IsTrue (inner number) → IsTrue (are_inner_statements (λ k. inner k && is_no_task (slice_get adds_to_block.functions k)) f.body)
first_inner zero f e is = cc
first_inner (suc k) f e is = cc

pub block_confined : IsConfined adds_to_block
block_confined = record { inner = inner; tasks = only_first; bodies = first_inner }

never : (b : Bool) → IsTrue ((((b && false) && true) && true) && true) → ⊥
never true h = cc
never false h = cc

-- a task calls itself there
pub inside_unconfined : IsConfined calls_inside → ⊥
inside_unconfined confined = never (confined.inner 0) (confined.bodies 0 _ refl (confined.tasks 0 _ _ refl refl))

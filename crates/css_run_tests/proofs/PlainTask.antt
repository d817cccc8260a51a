-- The tests' task is plain.
use Rattle.std.proofs.Common.{◌≡◌, ℕ, zero, suc, Some, None, slice_get, refl, sym, ap, ◌∙◌, subst, List, [], ◌∷◌}
use Rattle.css_vm.specs.Code.{Routine, Shape, Code}
use Rattle.css_run_tests.specs.Tasks.{dividing, task_of, task_code, one_window}
use Rattle.css_main_side.specs.Plain.{IsPlainShape, HasPlainTasks}

pub task_plain : HasPlainTasks task_code
task_plain zero f s is task = absurd (cc)
task_plain (suc zero) f s is task =
    let routine : f ≡ task_of dividing = cc in
    let same : Some one_window ≡ Some s = ap (λ (r : Routine). r.task) (sym routine) ∙ task in
    let shape : s ≡ one_window = cc in
    record {
      parameters = ap (λ (r : Routine). r.parameters) routine;
      arguments = ap (λ (x : Shape). x.arguments) shape;
    }
task_plain (suc (suc k)) f s is task = absurd (cc)

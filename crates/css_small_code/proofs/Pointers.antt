-- The tasks of a program's code take pointers.
use Rattle.std.proofs.Common.{◌≡◌, ℕ, Bool, true, false, Option, Some, None, if◌then◌else◌, ⊎_elim, refl, sym, ap, ◌∙◌, subst}
use Rattle.std.specs.Prelude.{slice_get}
use Rattle.std.proofs.lemmas.Option.{same_Some}
use Rattle.css_vm.specs.Code.{Shape, Routine}
use Rattle.css_small.specs.Tree.{Function, Program}
use Rattle.css_small_code.specs.Code.{task_shape, function_code, main_code, program_code}
use Rattle.css_small_code.specs.Tasks.{TakesPointer, TasksTakePointers}
use Rattle.css_small_code.proofs.Places.{which}

-- the shape of a function that is a task
pointer_taken : (f : Function) (is_task : Bool) (s : Shape) → (if is_task then Some task_shape else None) ≡ Some s → TakesPointer (function_code f) s
pointer_taken f false s h = cc
pointer_taken f true s h = record { parameters = refl; arguments = ap (λ (x : Shape). x.arguments) (sym (same_Some task_shape s h)) }

pub tasks_take_pointers : (p : Program) → TasksTakePointers (program_code p)
tasks_take_pointers p = λ k f s found task.
    ⊎_elim
    (λ one. subst (λ r. TakesPointer r s) one.2 (pointer_taken one.0 one.0.is_task s (ap (λ (r : Routine). r.task) one.2 ∙ task)))
    (λ end. let none : None ≡ Some s = ap (λ (r : Routine). r.task) end.1 ∙ task in cc)
    (which function_code (main_code p.functions p.main) p.functions k f found)

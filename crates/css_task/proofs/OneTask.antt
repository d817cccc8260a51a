-- A record is of one task at most, so what it comes to alone it comes to as any task that it is of.
use Rattle.std.proofs.Common.{◌≡◌, ℕ, List, Option, Some, slice_get, ap, sym, subst, ◌∙◌}
use Rattle.css_base.specs.declared.limits.Limits.{Limits}
use Rattle.css_record.specs.declared.task_record.TaskRecord.{TaskRecord}
use Rattle.css_vm.specs.Code.{Routine, Shape, Code}
use Rattle.css_task.specs.Alone.{TaskOf, End, ComesTo, IsAlone}

pub some_same : {A : Type 0} (o : Option A) (f g : A) → o ≡ Some f → o ≡ Some g → f ≡ g
some_same o f g is is' = cc

pub one_shape : (code : Code) (r : TaskRecord) (f g : Routine) (s t : Shape) → TaskOf code r f s → TaskOf code r g t → s ≡ t
one_shape code r f g s t one other =
    let same = some_same (slice_get code.functions r.function) f g one.function other.function in
    some_same g.task s t (ap (λ (h : Routine). h.task) (sym same) ∙ one.task) other.task

pub comes_alone : (code : Code) (r : TaskRecord) (inputs : List (List ℕ)) (units : ℕ) (end : End) → IsAlone code r inputs units end
    → (f : Routine) (s : Shape) (limits : Limits) → TaskOf code r f s → limits.task_units ≡ units → ComesTo code r s inputs limits end
comes_alone code r inputs units end alone f s limits of is =
    subst (λ s. ComesTo code r s inputs limits end) (one_shape code r alone.routine f alone.shape s alone.task of) (alone.comes limits is)

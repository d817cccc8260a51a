-- Code whose tasks are given one pointer to four bytes, which they read and write.
use Rattle.std.specs.Prelude.{◌≡◌, ℕ, false, [], ◌∷◌, Some, slice_get}
use Rattle.css_base.specs.declared.direction.Direction.TheVariants.{InOut}
use Rattle.css_vm.specs.declared.code.ArgShape.TheVariants as shapes
use Rattle.css_vm.specs.Code.{Routine, Shape, Code}

-- The task has one parameter, a pointer to four bytes that it reads and writes.
pub record IsPlainShape (f : Routine) (s : Shape) : Type 0 where
  pub parameters : f.parameters ≡ 4 ∷ []
  pub arguments : s.arguments ≡ shapes.Window InOut 4 0 false ∷ []

abbrev pub HasPlainTasks : Code → Type 0
HasPlainTasks code = (k : ℕ) (f : Routine) (s : Shape) → slice_get code.functions k ≡ Some f → f.task ≡ Some s → IsPlainShape f s

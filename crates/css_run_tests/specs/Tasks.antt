-- What the tests run: a main that does nothing, and a task that is given the address of a number.
use Rattle.std.specs.Prelude.{◌≡◌, ℕ, ℤ, pos, List, [], ◌∷◌, length, Some, None, false}
use Rattle.css_base.specs.declared.direction.Direction.TheVariants.{InOut}
use Rattle.css_record.specs.declared.task_record.TaskRecord.{TaskRecord}
use Rattle.css_record.specs.declared.version.VersionName.{VersionName}
use Rattle.css_vm.specs.declared.code.ArgShape.TheVariants as shapes
use Rattle.css_vm.specs.declared.code.Instr.{Instr}
use Rattle.css_vm.specs.declared.code.Op.{Op}
use Rattle.css_vm.specs.declared.code.Op.TheVariants as ops
use Rattle.css_vm.specs.Code.{Routine, Shape, Code}

abbrev pub at_line : Op → ℕ → Instr
at_line op line = record { op = op; line = line }

-- it adds 1 to the number so many bytes behind the address
abbrev pub adding : ℤ → List Instr
adding offset =
    at_line (ops.Frame 0) 7 ∷ at_line ops.Load32u 7 ∷ at_line (ops.Push offset) 7 ∷ at_line ops.Add 7
    ∷ at_line (ops.Dup 0) 7 ∷ at_line ops.Load32s 7 ∷ at_line (ops.Push (pos 1)) 7 ∷ at_line ops.Add 7
    ∷ at_line ops.Store32 8 ∷ at_line ops.Drop 8 ∷ at_line (ops.Push (pos 0)) 9 ∷ at_line ops.Ret 9 ∷ []

-- it divides 100 by the number
abbrev pub dividing : List Instr
dividing =
    at_line (ops.Frame 0) 5 ∷ at_line ops.Load32u 5 ∷ at_line (ops.Push (pos 100)) 5 ∷ at_line (ops.Dup 1) 5 ∷ at_line ops.Load32s 5 ∷ at_line ops.Divs 6
    ∷ at_line ops.Store32 7 ∷ at_line ops.Ret 7 ∷ []

-- it is given a window, which it reads and writes
abbrev pub one_window : Shape
one_window = record { high = false; arguments = shapes.Window InOut 4 0 false ∷ [] }

abbrev pub main_routine : Routine
main_routine = record { frame = 0; parameters = []; task = None; body = at_line (ops.Push (pos 0)) 1 ∷ at_line ops.Ret 2 ∷ [] }

abbrev pub task_of : List Instr → Routine
task_of body = record { frame = 8; parameters = 4 ∷ []; task = Some one_window; body = body }

-- the code of main and of a task with this body
abbrev pub with_task : List Instr → Code
with_task body = record { functions = main_routine ∷ task_of body ∷ []; main = 0 }

abbrev pub task_code : Code
task_code = with_task dividing

-- a call of the task, with 4 bytes from 8,192 as its window
pub record IsCall (r : TaskRecord) (number : ℕ) (input : VersionName) : Type 0 where
  pub is_number : r.number ≡ number
  pub function : r.function ≡ 1
  pub scalars : r.scalars.items ≡ []
  pub windows : r.windows.items ≡ record { base = 8192; rows = 1; width = 4; stride = 4 } ∷ []
  pub place : r.stack_place ≡ 65536
  pub inputs : r.inputs.items ≡ input ∷ []
  pub high : r.high ≡ false

-- 4 bytes are given
abbrev pub IsGiven : List (List ℕ) → Type 0
IsGiven given = (bytes : List ℕ) × (given ≡ bytes ∷ []) × (length bytes ≡ 4)

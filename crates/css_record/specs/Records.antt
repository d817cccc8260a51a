-- When a record of a task fits a code.
use Rattle.std.specs.Prelude.{◌≡◌, ◌≤◌, ◌<◌, ◌-◌, ◌*◌, ◌^◌, ℕ, zero, suc, Bool, true, false, List, [], ◌∷◌, ◌++◌, length, map, filter, All, Option, Some, None, slice_get, if◌then◌else◌}
use Rattle.std.specs.List.{list_any}
use Rattle.css_base.specs.declared.direction.Direction.{Direction}
use Rattle.css_base.specs.declared.direction.Direction.TheVariants.{InOut}
use Rattle.css_record.specs.declared.task_record.TaskRecord.{TaskRecord}
use Rattle.css_record.specs.Windows.{window, IsWindow}
use Rattle.css_semantics.specs.Tasks.{Window, Use, plain, window_length, reads, writes}
use Rattle.css_semantics.specs.Rules.{share_byte, overlap}
use Rattle.css_vm.specs.declared.code.ArgShape.{ArgShape}
use Rattle.css_vm.specs.declared.code.ArgShape.TheVariants as shapes
use Rattle.css_vm.specs.Code.{Routine, Shape, Code}

-- ---- a record's parts, by the shape of its task

-- the windows, each with what the task does with it
abbrev pub uses_by : List ArgShape → List Window → List Use
uses_by (shapes.Scalar ∷ parts) windows = uses_by parts windows
uses_by (shapes.Window direction element dims strided ∷ parts) (w ∷ windows) =
    record { window = w; direction = direction } ∷ uses_by parts windows
uses_by [] windows = []
uses_by (shapes.Window direction element dims strided ∷ parts) [] = []

abbrev pub uses : Shape → TaskRecord → List Use
uses s r = uses_by s.arguments (map window r.windows.items)

-- the arguments in order of parameters: a window's is its base
abbrev pub arguments_by : List ArgShape → (scalars : List ℕ) → List Window → List ℕ
arguments_by (shapes.Scalar ∷ parts) (v ∷ scalars) windows = v ∷ arguments_by parts scalars windows
arguments_by (shapes.Window direction element dims strided ∷ parts) scalars (w ∷ windows) = w.base ∷ arguments_by parts scalars windows
arguments_by [] scalars windows = []
arguments_by (shapes.Scalar ∷ parts) [] windows = []
arguments_by (shapes.Window direction element dims strided ∷ parts) scalars [] = []

abbrev pub arguments : Shape → TaskRecord → List ℕ
arguments s r = arguments_by s.arguments r.scalars.items (map window r.windows.items)

-- ---- fitting

-- there is one integer, below 2 to the bits of its parameter, for each integer parameter, and one window for each pointer
abbrev pub AreGiven : List ArgShape → (parameters : List ℕ) → (scalars : List ℕ) → List Window → Type 0
AreGiven [] [] [] [] = Unit {0}
AreGiven (shapes.Scalar ∷ parts) (width ∷ parameters) (v ∷ scalars) windows = (v < 2 ^ (8 * width)) × AreGiven parts parameters scalars windows
AreGiven (shapes.Window direction element dims strided ∷ parts) (width ∷ parameters) scalars (w ∷ windows) = IsWindow w × AreGiven parts parameters scalars windows
AreGiven _ _ _ _ = ⊥

-- of two windows that share a byte both are equal, and none is written
abbrev pub AgreeInBytes : Use → Use → Type 0
AgreeInBytes a b = share_byte a.window b.window ≡ true → (a.window ≡ b.window) × (writes a.direction ≡ false) × (writes b.direction ≡ false)

abbrev pub AllAgree : List Use → Type 0
AllAgree [] = Unit {0}
AllAgree (u ∷ us) = All (AgreeInBytes u) us × AllAgree us

-- the stack of the task, below its stack place, shares no byte with the window
abbrev pub IsClearOfStack : (place : ℕ) → Use → Type 0
IsClearOfStack place u = share_byte u.window (plain (place - 16384) 16384) ≡ false

-- The record is one of a task of the code.
pub record FitsCode (code : Code) (r : TaskRecord) : Type 0 where
  pub routine : Routine
  pub shape : Shape
  pub function : slice_get code.functions r.function ≡ Some routine
  pub task : routine.task ≡ Some shape
  pub high : r.high ≡ shape.high
  pub given : AreGiven shape.arguments routine.parameters r.scalars.items (map window r.windows.items)
  pub agree : AllAgree (uses shape r)
  pub place : 16384 ≤ r.stack_place
  pub clear : All (IsClearOfStack r.stack_place) (uses shape r)
  pub inputs : length r.inputs.items ≡ length (filter (λ u. reads u.direction) (uses shape r))

-- ---- inputs

-- the windows that are read, in order
abbrev pub read_windows : List Use → List Window
read_windows uses = map (λ u. u.window) (filter (λ u. reads u.direction) uses)

-- There is one list of bytes for each window that is read, as long as the window, with equal bytes for equal windows.
pub record InputsFit (uses : List Use) (inputs : List (List ℕ)) : Type 0 where
  pub lengths : map length inputs ≡ map window_length (read_windows uses)
  pub equal : (j k : ℕ) (w : Window) → slice_get (read_windows uses) j ≡ Some w → slice_get (read_windows uses) k ≡ Some w
      → slice_get inputs j ≡ slice_get inputs k

-- ---- plain tasks

-- a window that is read and written, and is one row
abbrev pub IsPlainUse : Use → Type 0
IsPlainUse u = (u.direction ≡ InOut) × (u.window.rows ≡ 1)

-- Programs without tasks, and programs whose waits and dimensions have no effect.
use Rattle.std.specs.Prelude.{Bool, true, false, List, [], ◌∷◌, map, Option, Some, None, All, if◌then◌else◌}
use Rattle.css_core.specs.Core.{Statement, Eval, Block, If, Loop, Break, Continue, Return, Mark, Await, Statements, Nothing, Then, Part, Scalar, Window, Task, Function, Program}
use Rattle.css_core.specs.Quiet.{AreQuiet}

-- ---- without tasks

abbrev pub is_directive : Statement → Bool
is_directive (Eval line e) = false
is_directive (Block all) = false
is_directive (If line test s other) = false
is_directive (Loop line tests_first test step body) = false
is_directive Break = false
is_directive Continue = false
is_directive (Return line e) = false
is_directive (Mark line kind) = true
is_directive (Await line places) = true

-- Directives among other statements are left out. One that is the whole body of an `if` or of a loop, which no text spells, becomes an
-- empty block.
abbrev mutual
  pub without : Statement → Statement
  without (Eval line e) = Eval line e
  without (Block all) = Block (without_all all)
  without (If line test s other) = If line test (without s) (without other)
  without (Loop line tests_first test step body) = Loop line tests_first test step (without body)
  without Break = Break
  without Continue = Continue
  without (Return line e) = Return line e
  without (Mark line kind) = Block Nothing
  without (Await line places) = Block Nothing

  pub without_all : Statements → Statements
  without_all Nothing = Nothing
  without_all (Then s others) = if is_directive s then without_all others else Then (without s) (without_all others)

-- no function is a task
abbrev pub without_task : Function → Function
without_task f = record f { task = None; body = without_all f.body }

abbrev pub without_tasks : Program → Program
without_tasks p = record p { functions = map without_task p.functions }

-- ---- waits and dimensions that do nothing but load

abbrev mutual
  pub WaitsQuietly : Statement → Type 0
  WaitsQuietly (Eval line e) = Unit {0}
  WaitsQuietly (Block all) = AllWaitQuietly all
  WaitsQuietly (If line test s other) = WaitsQuietly s × WaitsQuietly other
  WaitsQuietly (Loop line tests_first test step body) = WaitsQuietly body
  WaitsQuietly Break = Unit {0}
  WaitsQuietly Continue = Unit {0}
  WaitsQuietly (Return line e) = Unit {0}
  WaitsQuietly (Mark line kind) = Unit {0}
  WaitsQuietly (Await line places) = AreQuiet places

  pub AllWaitQuietly : Statements → Type 0
  AllWaitQuietly Nothing = Unit {0}
  AllWaitQuietly (Then s others) = WaitsQuietly s × AllWaitQuietly others

abbrev pub MeasuresQuietly : List Part → Type 0
MeasuresQuietly [] = Unit {0}
MeasuresQuietly (Scalar ∷ parts) = MeasuresQuietly parts
MeasuresQuietly (Window direction element is_strided dimensions ∷ parts) = AreQuiet dimensions × MeasuresQuietly parts

abbrev pub HasQuietTask : Option Task → Type 0
HasQuietTask None = Unit {0}
HasQuietTask (Some task) = MeasuresQuietly task.parts

abbrev pub IsQuietFunction : Function → Type 0
IsQuietFunction f = HasQuietTask f.task × AllWaitQuietly f.body

abbrev pub IsQuietProgram : Program → Type 0
IsQuietProgram p = All IsQuietFunction p.functions

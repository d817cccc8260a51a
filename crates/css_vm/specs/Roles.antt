-- What each instruction is: the cells that it takes and gives, and where it goes on.
use Rattle.std.specs.Prelude.{ℕ, ◌+◌}
use Rattle.css_vm.specs.declared.code.Op.{Op}
use Rattle.css_vm.specs.declared.code.Op.TheVariants as ops
use Rattle.css_vm.specs.declared.code.MarkKind.{MarkKind}

-- what an instruction is: those from `Pushing` to `Accessing` go on at the next place
pub data Role : Type 0 where
  -- gives a cell, where so many stand on the stack
  Pushing : (below : ℕ) → Role
  -- makes some cells of others
  Computing : (taken given : ℕ) → Role
  -- makes one cell of two, of which the second isn't 0
  Dividing : Role
  -- loads or stores, and makes one cell of so many
  Accessing : (taken : ℕ) → Role
  -- goes on at a place; or there where the cell that it takes is 0
  Jumping : (to : ℕ) → Role
  Branching : (to : ℕ) → Role
  -- calls a function, or a task while tasks are made
  Calling : (function : ℕ) → Role
  Submitting : (function : ℕ) → Role
  -- tells or asks the runtime
  Marking : (kind : MarkKind) → Role
  -- enters a loop's body
  Turning : Role
  -- writes a cell
  Writing : Role
  -- leaves the function with a cell
  Returning : Role

abbrev pub role_of : Op → Role
role_of (ops.Push v) = Pushing 0
role_of ops.Drop = Computing 1 0
role_of (ops.Dup n) = Pushing (n + 1)
role_of ops.Swap = Computing 2 2
role_of (ops.Frame k) = Pushing 0
role_of ops.Load32u = Accessing 1
role_of ops.Load32s = Accessing 1
role_of ops.Store32 = Accessing 2
role_of ops.Add = Computing 2 1
role_of ops.Sub = Computing 2 1
role_of ops.Mul = Computing 2 1
role_of ops.And = Computing 2 1
role_of ops.Or = Computing 2 1
role_of ops.Xor = Computing 2 1
role_of ops.Neg = Computing 1 1
role_of ops.Not = Computing 1 1
role_of ops.Divs = Dividing
role_of ops.Rems = Dividing
role_of (ops.Shl n) = Computing 2 1
role_of (ops.Shrs n) = Computing 2 1
role_of ops.Eq = Computing 2 1
role_of ops.Ne = Computing 2 1
role_of ops.Lts = Computing 2 1
role_of (ops.Conv t) = Computing 1 1
role_of (ops.Jump to) = Jumping to
role_of (ops.Jumpz to) = Branching to
role_of (ops.Call k) = Calling k
role_of (ops.Submit k) = Submitting k
role_of (ops.Mark kind) = Marking kind
role_of ops.Turn = Turning
role_of (ops.Out c) = Writing
role_of ops.Ret = Returning

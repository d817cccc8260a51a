-- What each instruction is: how many cells it takes and gives, and where it goes on. All that is asked of instructions but their
-- effects is asked of this table.
use Rattle.std.specs.Prelude.{ℕ, ◌+◌, []}
use Rattle.css_semantics.specs.Dialogue.{Mode, Plain, Waiting, Measuring}
use Rattle.css_isa.specs.declared.code.Op.{Op}
use Rattle.css_isa.specs.declared.code.Op.TheVariants as ops
use Rattle.css_isa.specs.declared.code.Mark.{Mark}
use Rattle.css_isa.specs.declared.code.Mark.TheVariants as marks

-- what an instruction is: the first five go on at the next place by their effect
pub data Role : Type 0 where
  -- makes so many cells of others, where so many have to be there, and asks at most the memory
  Straight : (needed taken given : ℕ) → Role
  -- enters a loop's body
  Turning : Role
  -- makes so many cells of others, and asks what stands outside of the machine
  Outward : (taken given : ℕ) → Role
  -- tells what concerns all tasks
  Telling : Role
  -- waits for the object at an address
  Awaiting : Role
  -- goes on in another mode
  Changing : (mode : Mode) → Role
  -- gives a cell that says whether calls of tasks make tasks
  Testing : Role
  -- goes on at a place; or there where the cell that it takes is 0
  Jumping : (to : ℕ) → Role
  Branching : (to : ℕ) → Role
  -- calls a function, or a task while tasks are made
  Calling : (function : ℕ) → Role
  Submitting : (function : ℕ) → Role
  -- leaves the function with a cell
  Returning : Role

-- one cell of one, and of two
abbrev of_one : Role
of_one = Straight 1 1 1

abbrev of_two : Role
of_two = Straight 2 2 1

abbrev pub role_of_mark : Mark → Role
role_of_mark marks.Start = Telling
role_of_mark marks.Finish = Telling
role_of_mark marks.Barrier = Telling
role_of_mark marks.Wait = Awaiting
role_of_mark marks.InWait = Changing Waiting
role_of_mark marks.InDimension = Changing (Measuring [])
role_of_mark marks.Outside = Changing Plain
role_of_mark marks.Started = Testing

abbrev pub role_of : Op → Role
role_of (ops.Push v) = Straight 0 0 1
role_of ops.Drop = Straight 1 1 0
role_of (ops.Dup n) = Straight (n + 1) 0 1
role_of ops.Swap = Straight 2 2 2
role_of (ops.Frame k) = Straight 0 0 1
role_of ops.Load8u = of_one
role_of ops.Load8s = of_one
role_of ops.Load16u = of_one
role_of ops.Load16s = of_one
role_of ops.Load32u = of_one
role_of ops.Load32s = of_one
role_of ops.Load64 = of_one
role_of ops.Store8 = of_two
role_of ops.Store16 = of_two
role_of ops.Store32 = of_two
role_of ops.Store64 = of_two
role_of ops.Add = of_two
role_of ops.Sub = of_two
role_of ops.Mul = of_two
role_of ops.And = of_two
role_of ops.Or = of_two
role_of ops.Xor = of_two
role_of ops.Neg = of_one
role_of ops.Not = of_one
role_of ops.Divs = of_two
role_of ops.Divu = of_two
role_of ops.Rems = of_two
role_of ops.Remu = of_two
role_of (ops.Shl n) = of_two
role_of (ops.Shrs n) = of_two
role_of (ops.Shru n) = of_two
role_of ops.Eq = of_two
role_of ops.Ne = of_two
role_of ops.Lts = of_two
role_of ops.Ltu = of_two
role_of (ops.Conv t) = of_one
role_of (ops.Jump to) = Jumping to
role_of (ops.Jumpz to) = Branching to
role_of (ops.Call k) = Calling k
role_of ops.Ret = Returning
role_of ops.Turn = Turning
role_of (ops.Submit k) = Submitting k
role_of (ops.Mark m) = role_of_mark m
role_of (ops.Out c) = Outward 1 1
role_of ops.In = Outward 0 1
role_of ops.Malloc = Outward 1 1

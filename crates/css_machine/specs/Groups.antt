-- Groups of instructions, each of which is done by one function.
use Rattle.std.specs.Prelude.{Bool, true, false}
use Rattle.css_isa.specs.declared.code.Op.{Op}
use Rattle.css_isa.specs.declared.code.Op.TheVariants as ops

-- those that load
abbrev pub loads : Op → Bool
loads ops.Load8u = true
loads ops.Load8s = true
loads ops.Load16u = true
loads ops.Load16s = true
loads ops.Load32u = true
loads ops.Load32s = true
loads ops.Load64 = true
loads op = false

-- those that store
abbrev pub stores : Op → Bool
stores ops.Store8 = true
stores ops.Store16 = true
stores ops.Store32 = true
stores ops.Store64 = true
stores op = false

-- those that make at most as many cells of the topmost one or two
abbrev pub reworks : Op → Bool
reworks ops.Drop = true
reworks ops.Swap = true
reworks ops.Neg = true
reworks ops.Not = true
reworks (ops.Conv t) = true
reworks op = false

-- those that make one cell of two, without a fault
abbrev pub combines : Op → Bool
combines ops.Add = true
combines ops.Sub = true
combines ops.Mul = true
combines ops.And = true
combines ops.Or = true
combines ops.Xor = true
combines (ops.Shl n) = true
combines (ops.Shrs n) = true
combines (ops.Shru n) = true
combines ops.Eq = true
combines ops.Ne = true
combines ops.Lts = true
combines ops.Ltu = true
combines op = false

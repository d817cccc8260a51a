-- Layouts of memories.
use Rattle.std.proofs.Common.{◌≡◌, ℕ, ◌≤◌, length, ap, arith}
use Rattle.css_semantics.specs.Memory.{Memory, heap_top, stack_place}
use Rattle.css_semantics.specs.Flat.{IsLaidOut}
use Rattle.css_arguments.specs.Layouts.{layout_of, IsLayout}

-- a memory's layout stands in order, where its heap doesn't reach into its stack
pub ordered : (m : Memory) → heap_top m ≤ stack_place m → IsLayout (layout_of m)
ordered m below = record {
  globals = omega arith;
  heap = omega arith;
  top = omega arith;
  stack = below;
  end = omega arith;
}

-- so it does where the memory is laid out and its stack is within its limit
pub laid_out : (size : ℕ) (m : Memory) → IsLaidOut size m → length m.stack ≤ m.limit.bytes → IsLayout (layout_of m)
laid_out size m laid within =
    let bytes : m.limit.bytes ≡ 1064960 = ap (λ l. l.bytes) laid.limit in
    ordered m (omega (arith, within, bytes, laid.end, laid.room))

-- A memory with the bytes of a window written.
use Rattle.std.specs.Prelude.{ℕ, zero, suc, ◌+◌, List, take, drop}
use Rattle.css_semantics.specs.Memory.{Memory, stored}
use Rattle.css_semantics.specs.Tasks.{Window}

-- the memory with bytes written into rows, in order
abbrev pub with_rows : Memory → (rows base width stride : ℕ) → (bytes : List ℕ) → Memory
with_rows m zero base width stride bytes = m
with_rows m (suc rows) base width stride bytes = with_rows (stored m base (take width bytes)) rows (base + stride) width stride (drop width bytes)

-- the memory with a window's bytes written
abbrev pub with_window : Memory → Window → (bytes : List ℕ) → Memory
with_window m w bytes = with_rows m w.rows w.base w.width w.stride bytes

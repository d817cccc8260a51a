-- Live bytes by a layout of main's memory.
use Rattle.std.specs.Prelude.{◌≤◌, ℕ, Bool, ◌||◌}
use Rattle.css_semantics.specs.Memory.{Memory, first_global, globals_end, heap_start, heap_top, stack_place, is_between}
use Rattle.css_record.specs.declared.layout.Layout.{Layout}

-- the layout of a memory
abbrev pub layout_of : Memory → Layout
layout_of m = record { globals_end = globals_end m; heap_start = heap_start m; heap_top = heap_top m; stack_place = stack_place m; end = m.end }

-- the byte at an address is a global's, the heap's or the stack's
abbrev pub is_live_at : Layout → ℕ → Bool
is_live_at l address =
    is_between first_global l.globals_end address
    || (is_between l.heap_start l.heap_top address || is_between l.stack_place l.end address)

-- the parts of a layout stand in order
pub record IsLayout (l : Layout) : Type 0 where
  pub globals : first_global ≤ l.globals_end
  pub heap : l.globals_end ≤ l.heap_start
  pub top : l.heap_start ≤ l.heap_top
  pub stack : l.heap_top ≤ l.stack_place
  pub end : l.stack_place ≤ l.end

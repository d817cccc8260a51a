-- Where the parts of a memory begin and end, and which bytes are live by that.
use Rattle.std.specs.Prelude.{ℕ, Bool, not, ◌&&◌, nat_le}
use Rattle.css_semantics.specs.Memory.{Memory, first_global, globals_end, heap_start, heap_top, stack_place}
use Rattle.css_record.specs.declared.layout.Layout.{Layout}
use Rattle.css_memory.specs.Kept.{meets_gap}

abbrev pub layout_of : Memory → Layout
layout_of m = record { globals_end = globals_end m; heap_start = heap_start m; heap_top = heap_top m; stack_place = stack_place m; end = m.end }

-- bytes from one address up to another are within the memory, and meet neither gap between its parts
abbrev pub is_within : Layout → (from to : ℕ) → Bool
is_within l from to =
    (nat_le first_global from && nat_le to l.end)
    && (not (meets_gap l.globals_end l.heap_start from to) && not (meets_gap l.heap_top l.stack_place from to))

-- Main's memory as the code holds it.
use Rattle.std.specs.Prelude.{length, vec_capacity}
use Rattle.css_memory.specs.declared.main_memory.MainMemory.TheInside.{Inside}
use Rattle.css_memory.specs.Main.{Main}
use Rattle.css_memory.specs.Kept.{Parts, kept, IsKept}

abbrev pub parts : Inside → Parts
parts m = record {
  low = m.low.items;
  globals_end = m.globals_end;
  heap_start = m.heap_start;
  high = m.high.items;
  origin = m.origin;
  start = m.start;
}

abbrev pub main : Inside → Main
main m = record { memory = kept (parts m) m.calls m.most_calls; pages = m.pages }

abbrev pub IsHeld : Inside → Type 0
IsHeld m = IsKept (parts m) (vec_capacity m.low) (length m.pages)

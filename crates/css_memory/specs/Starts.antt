-- Where a code starts: a memory with its globals.
use Rattle.std.specs.Prelude.{ℕ, ◌-◌, List, [], ◌∷◌, replicate}
use Rattle.css_semantics.specs.Memory.{Memory, StackLimit, first_global, overlaid}
use Rattle.css_isa.specs.Code.{Code, Datum}

-- the globals' first bytes: zeros, and what is given
abbrev pub first_bytes : List Datum → (size : ℕ) → List ℕ
first_bytes [] size = replicate size 0
first_bytes (d ∷ ds) size = overlaid first_global (first_bytes ds size) d.address d.bytes

-- a memory of so many bytes with a code's globals, before main's entry
abbrev pub start_of : Code → (size : ℕ) → StackLimit → Memory
start_of code size limit = record {
  globals = first_bytes code.datums (code.globals_end - first_global);
  heap = [];
  stack = [];
  end = size;
  calls = 0;
  limit = limit;
}

-- Where a program starts: a memory with its globals, and an input.
use Rattle.std.specs.Prelude.{ℕ, ◌-◌, List, [], ◌∷◌, replicate}
use Rattle.css_semantics.specs.Memory.{Memory, first_global, overlaid}
use Rattle.css_semantics.specs.Flat.{FlatState, erased_stack}
use Rattle.css_core.specs.Core.{Datum, Program}

-- the globals' first bytes: zeros, and what is given
abbrev pub first_bytes : List Datum → ℕ → List ℕ
first_bytes [] size = replicate size 0
first_bytes (d ∷ ds) size = overlaid first_global (first_bytes ds size) d.address d.bytes

-- a memory of so many bytes with a program's globals, before main's entry
abbrev pub no_frames : (size : ℕ) → Program → Memory
no_frames size p = record { globals = first_bytes p.datums (p.globals_end - first_global); heap = []; stack = []; end = size; calls = 0; limit = erased_stack }

abbrev pub start_of : (size : ℕ) (input : List ℕ) → Program → FlatState
start_of size input p = record { memory = no_frames size p; input = input }

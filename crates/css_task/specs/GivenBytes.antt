-- The bytes that a task is given, and those that it leaves.
use Rattle.std.specs.Prelude.{ℕ, Bool, not, List, [], ◌∷◌, ◌++◌, take, drop, replicate, if◌then◌else◌}
use Rattle.css_base.specs.declared.direction.Direction.{Direction}
use Rattle.css_semantics.specs.Tasks.{Window, Use, window_length, reads, writes}
use Rattle.css_semantics.specs.Alone.{first_input}
use Rattle.css_task.specs.Cells.{flags, Kept}

-- those of each window in order: the inputs of the windows that are read, and zeros for the others
abbrev pub given_bytes : List Use → (inputs : List (List ℕ)) → List ℕ
given_bytes [] inputs = []
given_bytes (u ∷ uses) inputs =
    if reads u.direction then first_input inputs ++ given_bytes uses (drop 1 inputs)
    else replicate (window_length u.window) 0 ++ given_bytes uses inputs

-- those of the first window, and the inputs for the others
abbrev pub own_bytes : Direction → Window → (inputs : List (List ℕ)) → List ℕ
own_bytes direction w inputs = if reads direction then first_input inputs else replicate (window_length w) 0

abbrev pub other_inputs : Direction → (inputs : List (List ℕ)) → List (List ℕ)
other_inputs direction inputs = if reads direction then drop 1 inputs else inputs

-- a window whose bytes have yet to be written
abbrev pub is_new : Use → Bool
is_new u = not (reads u.direction)

-- a task's memory before its entry
abbrev pub entry_with : List Use → (inputs : List (List ℕ)) → (place : ℕ) → Kept
entry_with uses inputs place = record {
  uses = uses;
  place = place;
  stack = [];
  frames = [];
  bytes = given_bytes uses inputs;
  unwritten = flags is_new uses;
}

-- of all windows' bytes those of each window that is written
abbrev pub left_bytes : List Use → (bytes : List ℕ) → List (List ℕ)
left_bytes [] bytes = []
left_bytes (u ∷ uses) bytes =
    if writes u.direction then take (window_length u.window) bytes ∷ left_bytes uses (drop (window_length u.window) bytes)
    else left_bytes uses (drop (window_length u.window) bytes)

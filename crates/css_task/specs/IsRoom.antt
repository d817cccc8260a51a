-- A task's memory as code keeps it: its windows' bytes, and its stack.
use Rattle.std.specs.Prelude.{◌≡◌, ℕ, ◌≤◌, List, [], length}
use Rattle.css_semantics.specs.TaskSpaces.{TaskState, total}
use Rattle.css_task.specs.declared.placed.Placed.{Placed}
use Rattle.css_task.specs.Cells.{Kept}
use Rattle.css_task.specs.Placing.{uses_of, ArePlaced}
use Rattle.css_task.specs.Keeping.{AreKept, kept}

abbrev pub kept_with : List Placed → TaskState → (bytes words : List ℕ) → Kept
kept_with all s bytes words = kept (uses_of all) s.memory.place s.memory.stack s.frames bytes words

pub record IsRoom (all : List Placed) (s : TaskState) (bytes words : List ℕ) : Type 0 where
  pub placed : ArePlaced all
  pub are : AreKept (uses_of all) s.memory.place bytes words
  pub none : s.memory.regions ≡ []
  pub whole : length s.memory.stack ≡ total s.frames
  pub short : length s.memory.stack ≤ 16384
  pub high : 16384 ≤ s.memory.place

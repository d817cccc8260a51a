-- The points of a dialogue at which an image is taken, and the images there of the program without its directives.
use Rattle.std.specs.Prelude.{ℕ, List, [], ◌∷◌, ◌++◌, find, ◌==◌, Option, Some, None, if◌then◌else◌}
use Rattle.css_semantics.specs.Actions.{Directive, Starting, Finishing, AtBarrier, WaitingOn, NoDirective, directive_of}
use Rattle.css_semantics.specs.Dialogue.{Tape}
use Rattle.css_semantics.specs.Memory.{Memory, image, memory_after}
use Rattle.css_semantics.specs.Pending.{pending}
use Rattle.css_semantics.specs.Tasks.{Window, is_started}
use Rattle.css_semantics.specs.Verdict.{ImageKind, OfBarrier, OfFinish, OfWait, Image, bytes_of_window}
use Rattle.css_semantics.specs.Plain.{plain}

-- A point: the tape before it, what the image is taken at, its line, the address that is waited for or 0, and the window that is
-- pending there, or none where the image is of all live bytes.
pub record Point : Type 0 where
  pub before : Tape
  pub kind : ImageKind
  pub line : ℕ
  pub address : ℕ
  pub window : Option Window

-- at a barrier and at a finish while started
abbrev pub whole_point : Tape → ImageKind → (line : ℕ) → List Point
whole_point tape kind line = if is_started tape then record { before = tape; kind = kind; line = line; address = 0; window = None } ∷ [] else []

-- at a wait on a pending base
abbrev pub wait_point : Tape → (line address : ℕ) → List Point
wait_point tape line address =
    elim (find (λ o. o.window.base == address) (pending tape)) [
      | None ↦ []
      | Some o ↦ record { before = tape; kind = OfWait; line = line; address = address; window = Some o.window } ∷ []
    ]

abbrev pub points_at : Tape → Directive → (line : ℕ) → List Point
points_at tape Starting line = []
points_at tape Finishing line = whole_point tape OfFinish line
points_at tape AtBarrier line = whole_point tape OfBarrier line
points_at tape (WaitingOn address) line = wait_point tape line address
points_at tape NoDirective line = []

-- all of a tape, the first first
abbrev pub points : Tape → List Point
points [] = []
points (i ∷ tape) = points tape ++ points_at tape (directive_of i.action) i.line

-- the bytes of an image of a memory: all live ones, or a window's
abbrev pub bytes_in : Memory → Option Window → List ℕ
bytes_in m None = image m
bytes_in m (Some w) = bytes_of_window m w

-- the image at a point, of the memory behind what the program without its directives asked up to there
abbrev pub erased_image : Memory → Point → Image
erased_image start p = record { kind = p.kind; line = p.line; address = p.address; bytes = bytes_in (memory_after start (plain p.before)) p.window }

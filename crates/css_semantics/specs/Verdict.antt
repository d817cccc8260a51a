-- What a judged dialogue comes to: its output, its calls of tasks, its images, and its ending.
use Rattle.std.specs.Prelude.{ℕ, zero, suc, ◌+◌, ℤ, List, [], ◌∷◌, ◌++◌, find, ◌==◌, Option, Some, None, if◌then◌else◌}
use Rattle.css_base.specs.declared.ending.Ending.{Ending}
use Rattle.css_base.specs.declared.ending.Ending.TheVariants as endings
use Rattle.css_base.specs.declared.ending.Who.{Who}
use Rattle.css_base.specs.declared.ending.Who.TheVariants as whose
use Rattle.css_base.specs.declared.limits.Limits.{Limits}
use Rattle.css_semantics.specs.Dialogue.{Action, Item, Tape, World, Call, Outcome, Goes, Stops, Stopped, Tired, output}
use Rattle.css_semantics.specs.Actions.{Boundary, BodyBegins, BodyEnds, NoBoundary, boundary_of, Directive, Starting, Finishing, AtBarrier, WaitingOn, NoDirective, directive_of}
use Rattle.css_semantics.specs.Memory.{Memory, bytes_at, image, memory_after}
use Rattle.css_semantics.specs.Flat.{FlatState, in_memory}
use Rattle.css_semantics.specs.Tasks.{Window, is_started, inside}
use Rattle.css_semantics.specs.Pending.{pending}
use Rattle.css_semantics.specs.Rules.{judged}

-- ---- calls

-- a task's call, and its line
pub record CallIn : Type 0 where
  pub call : Call
  pub line : ℕ

abbrev pub calls_at : Boundary → (line : ℕ) → List CallIn
calls_at (BodyBegins call) line = record { call = call; line = line } ∷ []
calls_at BodyEnds line = []
calls_at NoBoundary line = []

abbrev pub calls_by : Item → List CallIn
calls_by i = calls_at (boundary_of i.action) i.line

-- all calls of tasks, the first first: their numbers are their places
abbrev pub calls : Tape → List CallIn
calls [] = []
calls (i ∷ tape) = calls tape ++ calls_by i

-- ---- images

-- what an image is taken at: a barrier, a finish, or a wait
pub data ImageKind : Type 0 where
  OfBarrier : ImageKind
  OfFinish : ImageKind
  OfWait : ImageKind

-- an image: its kind, its line, the address that was waited for or 0, and its bytes
pub record Image : Type 0 where
  pub kind : ImageKind
  pub line : ℕ
  pub address : ℕ
  pub bytes : List ℕ

-- the bytes of a window's rows, in order
abbrev pub bytes_of_rows : Memory → (rows base width stride : ℕ) → List ℕ
bytes_of_rows m zero base width stride = []
bytes_of_rows m (suc rows) base width stride = bytes_at m base width ++ bytes_of_rows m rows (base + stride) width stride

abbrev pub bytes_of_window : Memory → Window → List ℕ
bytes_of_window m w = bytes_of_rows m w.rows w.base w.width w.stride

-- at a barrier and at a finish while started: all live bytes
abbrev pub whole_image : Memory → Tape → ImageKind → (line : ℕ) → List Image
whole_image start tape kind line =
    if is_started tape then record { kind = kind; line = line; address = 0; bytes = image (memory_after start tape) } ∷ [] else []

-- at a wait on a pending base: the window's bytes
abbrev pub wait_image : Memory → Tape → (line address : ℕ) → List Image
wait_image start tape line address =
    elim (find (λ o. o.window.base == address) (pending tape)) [
      | None ↦ []
      | Some o ↦ record { kind = OfWait; line = line; address = address; bytes = bytes_of_window (memory_after start tape) o.window } ∷ []
    ]

abbrev pub images_at : Memory → Tape → Directive → (line : ℕ) → List Image
images_at start tape Starting line = []
images_at start tape Finishing line = whole_image start tape OfFinish line
images_at start tape AtBarrier line = whole_image start tape OfBarrier line
images_at start tape (WaitingOn address) line = wait_image start tape line address
images_at start tape NoDirective line = []

abbrev pub images_by : Memory → Tape → Action → (line : ℕ) → List Image
images_by start tape action line = images_at start tape (directive_of action) line

-- all images, the first first
abbrev pub images : Memory → Tape → List Image
images start [] = []
images start (i ∷ tape) = images start tape ++ images_by start tape i.action i.line

-- ---- the verdict

-- whose event comes after a tape: that of the task that runs, or main's
abbrev pub who_runs : Option ℕ → Who
who_runs None = whose.Main
who_runs (Some number) = whose.Task number

pub record Verdict : Type 0 where
  pub output : List ℕ
  pub calls : List CallIn
  pub images : List Image
  pub ending : Ending

abbrev pub verdict_with : Memory → Tape → Ending → Verdict
verdict_with start tape ending = record { output = output tape; calls = calls tape; images = images start tape; ending = ending }

-- of a dialogue that the fuel didn't end
abbrev pub verdict : Memory → Outcome ℤ → Option Verdict
verdict start (Goes v tape) = Some (verdict_with start tape (endings.Result v))
verdict start (Stops (Stopped stop line) tape) = Some (verdict_with start tape (endings.Stopped stop line (who_runs (inside tape))))
verdict start (Stops Tired tape) = None

-- the world in which a program is judged from a start: one flat memory and an input, and the rules
abbrev pub judged_in : Limits → (start : FlatState) → World
judged_in limits start = judged start.memory limits (in_memory start)

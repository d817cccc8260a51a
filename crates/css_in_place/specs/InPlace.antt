-- A task's body that is run at its call, in the flat memory and under the rules, against the task by itself.
use Rattle.std.specs.Prelude.{◌≡◌, ◌≤◌, ◌++◌, ℕ, List, [], ◌∷◌, length, map, Option, Some, None, slice_get, if◌then◌else◌}
use Rattle.css_base.specs.declared.limits.Limits.{Limits}
use Rattle.css_base.specs.Limits.{IsInRange}
use Rattle.css_semantics.specs.Dialogue.{Action, Calls, Returns, Tape, World, Outcome, Goes, Stops, item, then_do}
use Rattle.css_semantics.specs.Actions.{Boundary, BodyBegins, BodyEnds, NoBoundary, boundary_of}
use Rattle.css_semantics.specs.Memory.{Memory, stack_place, memory_after}
use Rattle.css_semantics.specs.Flat.{FlatState, IsStart}
use Rattle.css_semantics.specs.Tasks.{Use, use_of, writes, body}
use Rattle.css_semantics.specs.Worlds.{AreOfMachine}
use Rattle.css_semantics.specs.Rules.{main_stack, hit}
use Rattle.css_semantics.specs.WithWindow.{with_window}
use Rattle.css_semantics.specs.Verdict.{judged_in, bytes_of_window}
use Rattle.css_semantics.specs.Alone.{alone_world, outs_after}
use Rattle.css_vm.specs.Code.{Routine, Shape, Code, call_of}
use Rattle.css_vm.specs.Machine.{Begin, exec, body_ends, frame_of, alone}
use Rattle.css_record.specs.Records.{read_windows}

-- behind a tape
abbrev pub behind : {A : Type 0} → Outcome A → Tape → Outcome A
behind (Goes a t) tape = Goes a (t ++ tape)
behind (Stops why t) tape = Stops why (t ++ tape)

-- the dialogue of a task's body, from a tape on
abbrev pub alone_from : World → Code → (function : ℕ) → (arguments : List ℕ) → (line : ℕ) → ℕ → Tape → Outcome (Option ℕ)
alone_from w code function arguments line n tape =
    then_do (exec w code n (Begin function arguments line) tape) (body_ends w (frame_of (slice_get code.functions function)))

-- the tape of a task's body by itself: what a machine asks, and then its return, if it comes to that
abbrev pub IsBodyTape : Outcome (Option ℕ) → Type 0
IsBodyTape (Goes (Some cell) t) = (asked : Tape) × (line : ℕ) × (t ≡ item Returns line ∷ asked) × AreOfMachine asked
IsBodyTape (Goes None t) = Unit {0}
IsBodyTape (Stops why t) = AreOfMachine t

-- the stack is within main's limits
abbrev pub IsWithin : Memory → Type 0
IsWithin m = (length m.stack ≤ main_stack.bytes) × (m.calls ≤ main_stack.calls)

-- The newest item is main's call of a task, which breaks no rule. The stack, whose place is the call's, is within main's limits.
pub record IsAtCall (code : Code) (limits : Limits) (start : FlatState) (tape : Tape) (k : ℕ) (arguments : List ℕ) (line : ℕ) (uses : List Use) (place : ℕ) : Type 0 where
  pub routine : Routine
  pub shape : Shape
  pub dimensions : List ℕ
  pub before : Tape
  pub function : slice_get code.functions k ≡ Some routine
  pub task : routine.task ≡ Some shape
  pub call : tape ≡ item (Calls (call_of k routine shape arguments dimensions place)) line ∷ before
  pub counts : length arguments ≡ length routine.parameters
  pub uses_are : uses ≡ map use_of (call_of k routine shape arguments dimensions place).arguments
  pub by_main : body before ≡ None
  pub allowed : hit start.memory limits before (Calls (call_of k routine shape arguments dimensions place)) ≡ None
  pub in_range : IsInRange limits
  pub starts : IsStart limits.memory start
  pub within : IsWithin (memory_after start.memory tape)
  pub place_is : place ≡ stack_place (memory_after start.memory tape)

-- what main asks is a call of a task, of which `IsAtCall` holds with some arguments, or it is none
abbrev pub IsPlacedAt : Code → Limits → (start : FlatState) → Boundary → (line : ℕ) → (before : Tape) → Type 0
IsPlacedAt code limits start (BodyBegins call) line before =
    (arguments : List ℕ) × IsAtCall code limits start (item (Calls call) line ∷ before) call.function arguments line (map use_of call.arguments) call.stack_place
IsPlacedAt code limits start BodyEnds line before = Unit {0}
IsPlacedAt code limits start NoBoundary line before = Unit {0}

abbrev pub IsPlaced : Code → Limits → (start : FlatState) → Action → (line : ℕ) → (before : Tape) → Type 0
IsPlaced code limits start action line before = IsPlacedAt code limits start (boundary_of action) line before

-- all calls of tasks on a tape
abbrev pub ArePlaced : Code → Limits → (start : FlatState) → Tape → Type 0
ArePlaced code limits start [] = Unit {0}
ArePlaced code limits start (i ∷ before) = IsPlaced code limits start i.action i.line before × ArePlaced code limits start before

-- what the windows hold that are read
abbrev pub inputs_at : Memory → List Use → List (List ℕ)
inputs_at m uses = map (bytes_of_window m) (read_windows uses)

-- the memory with the windows written that the task writes
abbrev pub written_back : Memory → List Use → (outs : List (List ℕ)) → Memory
written_back m [] outs = m
written_back m (u ∷ uses) [] = m
written_back m (u ∷ uses) (bytes ∷ outs) =
    if writes u.direction
    then written_back (with_window m u.window bytes) uses outs
    else written_back m uses (bytes ∷ outs)

-- At a call, the body in the flat memory has the dialogue of the task by itself over what its windows hold.
abbrev pub SpeaksAlike : Code → Limits → (start : FlatState) → Tape → (k : ℕ) → (arguments : List ℕ) → (line : ℕ) → (uses : List Use) → (place : ℕ) → Type 0
SpeaksAlike code limits start tape k arguments line uses place =
    (n : ℕ) → alone_from (judged_in limits start) code k arguments line n tape
    ≡ behind (alone (alone_world limits uses (inputs_at (memory_after start.memory tape) uses) place) code k arguments line n) tape

-- Where the task by itself returns, the flat memory behind its body is as it was, but for the windows that it writes, which have the
-- task's outs.
abbrev pub LeavesAlike : Code → Limits → (start : FlatState) → Tape → (k : ℕ) → (arguments : List ℕ) → (line : ℕ) → (uses : List Use) → (place : ℕ) → Type 0
LeavesAlike code limits start tape k arguments line uses place =
    (n cell : ℕ) (t : Tape)
    → alone (alone_world limits uses (inputs_at (memory_after start.memory tape) uses) place) code k arguments line n ≡ Goes (Some cell) t
    → memory_after start.memory (t ++ tape)
    ≡ written_back (memory_after start.memory tape) uses (outs_after uses (inputs_at (memory_after start.memory tape) uses) place t)

-- at a call, the body runs in the flat memory as the task does by itself
pub record RunsAlike (code : Code) (limits : Limits) (start : FlatState) (tape : Tape) (k : ℕ) (arguments : List ℕ) (line : ℕ) (uses : List Use) (place : ℕ) : Type 0 where
  pub dialogue : SpeaksAlike code limits start tape k arguments line uses place
  pub memory : LeavesAlike code limits start tape k arguments line uses place
  pub tape_is : (n : ℕ) → IsBodyTape (alone (alone_world limits uses (inputs_at (memory_after start.memory tape) uses) place) code k arguments line n)

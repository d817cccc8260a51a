-- Main's memory under the rules on main.
use Rattle.std.specs.Prelude.{◌≡◌, ◌≤◌, ℕ, ◌-◌, Bool, true, false, not, List, [], ◌∷◌, length, map, nat_lt, None, Option, IsTrue}
use Rattle.std.specs.List.{list_any}
use Rattle.css_base.specs.declared.direction.Direction.TheVariants.{InOut}
use Rattle.css_base.specs.declared.limits.Limits.{Limits}
use Rattle.css_base.specs.declared.rule.Rule.{Rule}
use Rattle.css_base.specs.declared.rule.Rule.TheVariants as rules
use Rattle.css_semantics.specs.Dialogue.{Action, Enter, Turn, Leave, Load, Store, Out, In, Malloc, Calls, Returns, Start, Finish, Barrier, Wait, WaitFault, DimFault, Fault, End, Argument, Reply, Tape}
use Rattle.css_semantics.specs.Actions.{Boundary, BodyBegins, BodyEnds, NoBoundary, boundary_of}
use Rattle.css_semantics.specs.Flat.{FlatState, erased_stack, memory_reply}
use Rattle.css_semantics.specs.Memory.{Memory, is_live_byte, stack_place, after, memory_after}
use Rattle.css_semantics.specs.Pending.{Object, pending, pending_after}
use Rattle.css_semantics.specs.Rules.{Check, check, main_stack, first_broken, judged_reply, is_unsynchronised, is_main_too_deep, has_bad_dimension, room_of, all_of_window, overlaps_partly, has_alias}
use Rattle.css_semantics.specs.Tasks.{window, body, main_units}
use Rattle.css_semantics.specs.Units.{Metered}

-- main's memory, and the objects that are pending
pub record Judged : Type 0 where
  pub memory : Memory
  pub objects : List Object

-- the rules on what a machine asks of main's memory, but for units
abbrev pub memory_checks : Judged → Action → List Check
memory_checks s action =
    check rules.Unsynchronised (is_unsynchronised s.objects action)
    ∷ check rules.MainStack (is_main_too_deep s.memory action)
    ∷ []

-- the reply to an action, without units
abbrev pub main_reply : Judged → Action → Reply
main_reply s action = judged_reply (first_broken (memory_checks s action)) (memory_reply s.memory action)

-- what an action of main does
abbrev pub main_after : Judged → Action → Judged
main_after s action = record { memory = after s.memory action; objects = pending_after true s.objects action }

-- the address of the stack's first byte
abbrev pub main_place : Judged → ℕ
main_place s = stack_place s.memory

-- ---- main's stack

-- the memory as one of the erased program, whose stack may take more than main's
abbrev pub erased : Memory → Memory
erased m = record m { limit = erased_stack }

-- The stack has main's limits, and is within them; the memory has at least as many bytes as limits give it.
pub record IsOfMain (m : Memory) : Type 0 where
  pub limit : m.limit ≡ main_stack
  pub end : 2097152 ≤ m.end
  pub bytes : length m.stack ≤ 1048576
  pub calls : m.calls ≤ 32768

-- ---- calls of tasks

-- the rules on what a task's call is given
abbrev pub call_checks : Limits → Judged → List Argument → List Check
call_checks limits s arguments =
    check rules.Dimension (list_any has_bad_dimension arguments)
    ∷ check rules.TooLarge (nat_lt limits.local_store (room_of (map window arguments)))
    ∷ check rules.DeadArgument (list_any (λ a. not (all_of_window (is_live_byte s.memory) (window a))) arguments)
    ∷ check rules.PartialOverlap (list_any (overlaps_partly s.objects arguments) arguments)
    ∷ check rules.AliasedArguments (has_alias arguments)
    ∷ []

-- the first of these rules that a call's arguments break
abbrev pub broken_by_call : Limits → Judged → List Argument → Option Rule
broken_by_call limits s arguments = first_broken (call_checks limits s arguments)

-- what a plain task is given: a pointer to four bytes that are read and written
abbrev pub plain_argument : (base : ℕ) → Argument
plain_argument base = record { base = base; element = 4; dimensions = []; is_strided = false; direction = InOut }

-- ---- what stands on tapes

abbrev pub begins_body : Boundary → Bool
begins_body (BodyBegins call) = true
begins_body BodyEnds = false
begins_body NoBoundary = false

abbrev pub is_call : Action → Bool
is_call action = begins_body (boundary_of action)

-- an action that may come from a task's body: no call of a task and no return of one, and nothing of main alone
abbrev pub is_of_body : Action → Bool
is_of_body (Enter size) = true
is_of_body Turn = true
is_of_body (Leave base size) = true
is_of_body (Load address width) = true
is_of_body (Store address bytes) = true
is_of_body (Out bytes) = true
is_of_body In = false
is_of_body (Malloc size) = false
is_of_body (Calls call) = false
is_of_body Returns = false
is_of_body Start = false
is_of_body Finish = false
is_of_body Barrier = false
is_of_body (Wait address) = false
is_of_body WaitFault = false
is_of_body DimFault = false
is_of_body (Fault kind) = true
is_of_body (End result) = false

-- all items of a tape may come from a task's body
abbrev pub AreOfBody : Tape → Type 0
AreOfBody [] = Unit {0}
AreOfBody (i ∷ tape) = IsTrue (is_of_body i.action) × AreOfBody tape

-- ---- where main is

-- Main is at this tape, from a start: no task's body runs; its memory, what is pending and the units that are left are these.
pub record IsMainAt (limits : Limits) (start : FlatState) (tape : Tape) (s : Metered Judged) : Type 0 where
  pub by_main : body tape ≡ None
  pub memory : s.state.memory ≡ memory_after start.memory tape
  pub objects : s.state.objects ≡ pending tape
  pub units : s.units ≡ limits.main_units - main_units tape

-- The rules of a run, and the first one that an action breaks.
use Rattle.std.specs.Prelude.{ℕ, zero, suc, ◌+◌, ◌-◌, ◌^◌, ℤ, pos, negsuc, int_lt, Bool, true, false, not, ◌&&◌, ◌||◌, List, [], ◌∷◌, length, filter, find, map, fold, nat_le, nat_lt, Option, Some, None, option_map}
use Rattle.std.specs.List.{list_any, list_all}
use Rattle.css_base.specs.declared.limits.Limits.{Limits}
use Rattle.css_semantics.specs.declared.TheConstants.{MAIN_STACK_LIMIT, MAIN_OPEN_CALLS}
use Rattle.css_base.specs.declared.direction.Direction.{Direction}
use Rattle.css_base.specs.declared.rule.Rule.{Rule}
use Rattle.css_base.specs.declared.rule.Rule.TheVariants as rules
use Rattle.css_semantics.specs.Dialogue.{Action, Tape, Reply, Refuses, World, Argument}
use Rattle.css_semantics.specs.Actions.{Access, Enters, Leaves, Loads, Stores, Allots, NoAccess, access_of, Boundary, BodyBegins, BodyEnds, NoBoundary, boundary_of, Directive, Starting, Finishing, AtBarrier, WaitingOn, NoDirective, directive_of, FaultAside, InWait, InDimension, NotAside, fault_aside_of}
use Rattle.css_semantics.specs.Memory.{Memory, StackLimit, rounded_up, all_from, is_between, is_live_byte, memory_after}
use Rattle.css_semantics.specs.Tasks.{Window, window, has_byte, is_same_window, window_length, span, reads, writes, Body, body, unit_of, is_started, main_units}
use Rattle.css_semantics.specs.Pending.{Object, some_from, pending}

-- all bytes of a window have a property: those of each of so many rows
abbrev pub all_of_rows : (ℕ → Bool) → (rows base width stride : ℕ) → Bool
all_of_rows test zero base width stride = true
all_of_rows test (suc rows) base width stride = all_from test base width && all_of_rows test rows (base + stride) width stride

abbrev pub all_of_window : (ℕ → Bool) → Window → Bool
all_of_window test w = all_of_rows test w.rows w.base w.width w.stride

-- two windows share a byte
abbrev pub share_byte : Window → Window → Bool
share_byte a b = not (all_of_window (λ address. not (has_byte b address)) a)

-- ---- stacks

-- what main's stack may take, and a task's
abbrev pub main_stack : StackLimit
main_stack = record { bytes = MAIN_STACK_LIMIT; calls = MAIN_OPEN_CALLS }

abbrev pub task_stack : StackLimit
task_stack = record { bytes = 16384; calls = 1024 }

-- with one more frame so many would be passed
abbrev pub is_too_deep : StackLimit → List ℕ → ℕ → Bool
is_too_deep limit frames size = nat_lt limit.bytes (fold (λ sum frame. sum + frame) size frames) || nat_le limit.calls (length frames)

-- ---- X1 and X2: directives of main

abbrev pub starts_twice : (is_started : Bool) → Directive → Bool
starts_twice is_started Starting = is_started
starts_twice is_started Finishing = false
starts_twice is_started AtBarrier = false
starts_twice is_started (WaitingOn address) = false
starts_twice is_started NoDirective = false

abbrev pub is_start_twice : Tape → Action → Bool
is_start_twice tape action = starts_twice (is_started tape) (directive_of action)

abbrev pub finishes_without : (is_started : Bool) → Directive → Bool
finishes_without is_started Starting = false
finishes_without is_started Finishing = not is_started
finishes_without is_started AtBarrier = false
finishes_without is_started (WaitingOn address) = false
finishes_without is_started NoDirective = false

abbrev pub is_finish_without : Tape → Action → Bool
is_finish_without tape action = finishes_without (is_started tape) (directive_of action)

-- ---- X3 to X7: what a task's call is given

-- a number that a dimension may be
abbrev pub is_dimension : ℤ → Bool
is_dimension (pos n) = nat_le 1 n && nat_lt n (2 ^ 63)
is_dimension (negsuc n) = false

-- the width of a row is over the stride
abbrev pub overlaps_itself : Bool → List ℤ → Bool
overlaps_itself false dimensions = false
overlaps_itself true [] = false
overlaps_itself true (rows ∷ []) = false
overlaps_itself true (rows ∷ width ∷ []) = false
overlaps_itself true (rows ∷ width ∷ stride ∷ []) = int_lt stride width
overlaps_itself true (rows ∷ width ∷ stride ∷ d ∷ more) = false

abbrev pub has_bad_dimension : Argument → Bool
has_bad_dimension a =
    not (list_all is_dimension a.dimensions) || (overlaps_itself a.is_strided a.dimensions || nat_lt (2 ^ 30) (span (window a)))

-- a dimension is at fault
abbrev pub faults_in_dimension : FaultAside → Bool
faults_in_dimension InWait = false
faults_in_dimension InDimension = true
faults_in_dimension NotAside = false

abbrev pub is_dimension_at_fault : Action → Bool
is_dimension_at_fault action = faults_in_dimension (fault_aside_of action)

-- the windows that differ
abbrev pub different : List Window → List Window
different [] = []
different (w ∷ windows) = w ∷ filter (λ v. not (is_same_window w v)) (different windows)

-- the bytes of a local store that windows take
abbrev pub room_of : List Window → ℕ
room_of windows = fold (λ sum w. sum + rounded_up 128 (window_length w)) 16384 (different windows)

-- they share a byte and aren't equal
abbrev pub overlap : Window → Window → Bool
overlap a b = share_byte a b && not (is_same_window a b)

-- a window meets a pending object or another window of the call, and isn't equal to it
abbrev pub overlaps_partly : List Object → List Argument → Argument → Bool
overlaps_partly objects arguments a =
    list_any (λ o. overlap (window a) o.window) objects || list_any (λ b. overlap (window a) (window b)) arguments

-- one window stands twice, and is written
abbrev pub has_alias : List Argument → Bool
has_alias [] = false
has_alias (a ∷ arguments) =
    list_any (λ b. is_same_window (window a) (window b) && (writes a.direction || writes b.direction)) arguments || has_alias arguments

-- a test of what a call is given, which nothing else fails
abbrev pub of_given : (List Argument → Bool) → Boundary → Bool
of_given test (BodyBegins call) = test call.arguments
of_given test BodyEnds = false
of_given test NoBoundary = false

abbrev pub of_arguments : (List Argument → Bool) → Action → Bool
of_arguments test action = of_given test (boundary_of action)

-- ---- X8: main and pending objects

abbrev pub meets : (Object → Bool) → List Object → (address width : ℕ) → Bool
meets which objects address width = list_any (λ o. which o && some_from (has_byte o.window) address width) objects

-- main loads or stores a byte that a task may write, or leaves a frame that meets a pending object
abbrev pub meets_pending : List Object → Access → Bool
meets_pending objects (Enters size) = false
meets_pending objects (Leaves base size) = meets (λ o. true) objects base size
meets_pending objects (Loads address width) = meets (λ o. o.is_written) objects address width
meets_pending objects (Stores address bytes) = meets (λ o. o.is_written) objects address (length bytes)
meets_pending objects (Allots size) = false
meets_pending objects NoAccess = false

abbrev pub is_unsynchronised : List Object → Action → Bool
is_unsynchronised objects action = meets_pending objects (access_of action)

-- ---- X9 to X12: a task and what it was given

-- some bytes are wholly in one row of a window
abbrev pub is_in_row : (rows base width stride : ℕ) → (address size : ℕ) → Bool
is_in_row zero base width stride address size = false
is_in_row (suc rows) base width stride address size =
    (nat_le base address && nat_le (address + size) (base + width)) || is_in_row rows (base + stride) width stride address size

abbrev pub is_in_window : Window → (address size : ℕ) → Bool
is_in_window w address size = is_in_row w.rows w.base w.width w.stride address size

-- some bytes are wholly in one of these frames, which lie below a place, the innermost lowest
abbrev pub is_in_frame : (place : ℕ) (frames : List ℕ) (address size : ℕ) → Bool
is_in_frame place [] address size = false
is_in_frame place (frame ∷ frames) address size =
    let end = place - fold (λ sum f. sum + f) 0 frames in
    (nat_le (end - frame) address && nat_le (address + size) end) || is_in_frame place frames address size

abbrev pub is_outside : Body → (address size : ℕ) → Bool
is_outside b address size =
    not (list_any (λ u. is_in_window u.window address size) b.uses || is_in_frame b.place b.frames address size)

abbrev pub lies_outside : Body → Access → Bool
lies_outside b (Enters size) = false
lies_outside b (Leaves base size) = false
lies_outside b (Loads address width) = is_outside b address width
lies_outside b (Stores address bytes) = is_outside b address (length bytes)
lies_outside b (Allots size) = false
lies_outside b NoAccess = false

abbrev pub is_outside_arguments : Body → Action → Bool
is_outside_arguments b action = lies_outside b (access_of action)

-- the byte at an address is in a window of such a direction
abbrev pub is_given_for : (Direction → Bool) → Body → ℕ → Bool
is_given_for which b address = list_any (λ u. which u.direction && has_byte u.window address) b.uses

abbrev pub has_stored : Body → ℕ → Bool
has_stored b address = list_any (λ r. is_between r.base (r.base + r.size) address) b.stored

-- the byte is one of a window that is only written, and isn't written yet
abbrev pub is_unwritten : Body → ℕ → Bool
is_unwritten b address = is_given_for (λ d. not (reads d)) b address && not (has_stored b address)

abbrev pub writes_input : Body → Access → Bool
writes_input b (Enters size) = false
writes_input b (Leaves base size) = false
writes_input b (Loads address width) = false
writes_input b (Stores address bytes) = some_from (is_given_for (λ d. not (writes d)) b) address (length bytes)
writes_input b (Allots size) = false
writes_input b NoAccess = false

abbrev pub is_input_written : Body → Action → Bool
is_input_written b action = writes_input b (access_of action)

abbrev pub reads_unwritten : Body → Access → Bool
reads_unwritten b (Enters size) = false
reads_unwritten b (Leaves base size) = false
reads_unwritten b (Loads address width) = some_from (is_unwritten b) address width
reads_unwritten b (Stores address bytes) = false
reads_unwritten b (Allots size) = false
reads_unwritten b NoAccess = false

abbrev pub is_unwritten_read : Body → Action → Bool
is_unwritten_read b action = reads_unwritten b (access_of action)

abbrev pub leaves_unwritten : Body → Boundary → Bool
leaves_unwritten b (BodyBegins call) = false
leaves_unwritten b BodyEnds = list_any (λ u. not (all_of_window (λ address. not (is_unwritten b address)) u.window)) b.uses
leaves_unwritten b NoBoundary = false

abbrev pub is_left_unwritten : Body → Action → Bool
is_left_unwritten b action = leaves_unwritten b (boundary_of action)

-- ---- X13, X14 and X15: stacks and units

-- a test of the frame that is entered, which nothing else fails
abbrev pub of_frame : (ℕ → Bool) → Access → Bool
of_frame test (Enters size) = test size
of_frame test (Leaves base size) = false
of_frame test (Loads address width) = false
of_frame test (Stores address bytes) = false
of_frame test (Allots size) = false
of_frame test NoAccess = false

abbrev pub is_entry_too_deep : StackLimit → List ℕ → Action → Bool
is_entry_too_deep limit frames action = of_frame (is_too_deep limit frames) (access_of action)

-- with one more frame main's stack, which is the memory's, would pass its limit
abbrev pub is_main_too_deep : Memory → Action → Bool
is_main_too_deep m action =
    of_frame (λ size. nat_lt main_stack.bytes (length m.stack + size) || nat_le main_stack.calls m.calls) (access_of action)

-- an action takes a unit where none is left
abbrev pub wants_unit : (limit used : ℕ) → Action → Bool
wants_unit limit used action = nat_lt 0 (unit_of action) && nat_le limit used

-- ---- X16: the expressions of a wait

abbrev pub faults_in_wait : FaultAside → Bool
faults_in_wait InWait = true
faults_in_wait InDimension = false
faults_in_wait NotAside = false

abbrev pub is_bad_wait : Action → Bool
is_bad_wait action = faults_in_wait (fault_aside_of action)

-- ---- the first rule

pub record Check : Type 0 where
  pub rule : Rule
  pub is_broken : Bool

abbrev pub check : Rule → Bool → Check
check rule is_broken = record { rule = rule; is_broken = is_broken }

-- what main may break, after a tape, where the memory is this
abbrev pub checks_of_main : Memory → Limits → Tape → Action → List Check
checks_of_main m limits tape action =
    check rules.StartTwice (is_start_twice tape action)
    ∷ check rules.FinishWithout (is_finish_without tape action)
    ∷ check rules.Dimension (is_dimension_at_fault action || of_arguments (list_any has_bad_dimension) action)
    ∷ check rules.TooLarge (of_arguments (λ all. nat_lt limits.local_store (room_of (map window all))) action)
    ∷ check rules.DeadArgument (of_arguments (list_any (λ a. not (all_of_window (is_live_byte m) (window a)))) action)
    ∷ check rules.PartialOverlap (of_arguments (λ all. list_any (overlaps_partly (pending tape) all) all) action)
    ∷ check rules.AliasedArguments (of_arguments has_alias action)
    ∷ check rules.Unsynchronised (is_unsynchronised (pending tape) action)
    ∷ check rules.MainStack (is_main_too_deep m action)
    ∷ check rules.Units (wants_unit limits.main_units (main_units tape) action)
    ∷ check rules.BadWait (is_bad_wait action)
    ∷ []

-- what a task may break
abbrev pub checks_of_task : Limits → Body → Action → List Check
checks_of_task limits b action =
    check rules.OutsideArguments (is_outside_arguments b action)
    ∷ check rules.WroteInput (is_input_written b action)
    ∷ check rules.ReadUnwritten (is_unwritten_read b action)
    ∷ check rules.LeftUnwritten (is_left_unwritten b action)
    ∷ check rules.TaskStack (is_entry_too_deep task_stack b.frames action)
    ∷ check rules.Units (wants_unit limits.task_units b.units action)
    ∷ []

abbrev pub first_broken : List Check → Option Rule
first_broken checks = option_map (λ c. c.rule) (find (λ c. c.is_broken) checks)

-- The first rule, in order of their numbers, that an action breaks after a tape. The first memory is the one before main's entry.
abbrev pub hit : Memory → Limits → Tape → Action → Option Rule
hit start limits tape action =
    elim (body tape) [
      | None ↦ first_broken (checks_of_main (memory_after start tape) limits tape action)
      | Some b ↦ first_broken (checks_of_task limits b action)
    ]

abbrev pub judged_reply : Option Rule → Reply → Reply
judged_reply None reply = reply
judged_reply (Some rule) reply = Refuses rule

-- The world that replies as another one does, but refuses what breaks a rule.
abbrev pub judged : Memory → Limits → World → World
judged start limits w tape i = judged_reply (hit start limits tape i.action) (w tape i)

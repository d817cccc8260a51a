-- Where main is behind what it does, and that its memory under the rules replies there as the judged world does.
use Rattle.std.proofs.Common.{◌≡◌, ℕ, ℤ, zero, suc, ◌+◌, ◌-◌, ◌≤◌, Bool, true, false, not, ◌||◌, List, [], ◌∷◌, ◌++◌, length, fold, nat_le, Option, Some, None, is_none, IsTrue, refl, ap, sym, ◌∙◌, arith, if◌then◌else◌}
use Rattle.std.proofs.lemmas.Bool.Decides.{nat_tests}
use Rattle.css_base.specs.declared.limits.Limits.{Limits}
use Rattle.css_base.specs.Limits.{IsInRange}
use Rattle.css_base.specs.declared.rule.Rule.{Rule}
use Rattle.css_base.specs.declared.rule.Rule.TheVariants as rules
use Rattle.css_semantics.specs.Dialogue.{Action, Enter, Turn, Leave, Load, Store, Out, In, Malloc, Calls, Returns, Start, Finish, Barrier, Wait, WaitFault, DimFault, Fault, End, Call, Item, Tape, Reply, Says, Refuses, item}
use Rattle.css_semantics.specs.Worlds.{state_after, is_of_machine, is_fault, AreOfMachine, Follows}
use Rattle.css_semantics.specs.Memory.{Memory, heap_start, stack_place, is_live, overlaid, stored, after, memory_after}
use Rattle.css_semantics.specs.Flat.{FlatState, erased_stack, has_room, reply_in, flat_at, IsStart}
use Rattle.css_semantics.specs.Pending.{Object, with_argument, pending, pending_after}
use Rattle.css_semantics.specs.Rules.{check, checks_of_main, checks_of_task, first_broken, judged_reply, is_main_too_deep}
use Rattle.css_semantics.specs.Tasks.{Body, unit_of, body, body_after, is_started, main_units}
use Rattle.css_semantics.specs.Units.{Metered, with_units, within, metered, spending}
use Rattle.css_semantics.specs.Verdict.{judged_in}
use Rattle.css_semantics.proofs.Following.{after_both}
use Rattle.css_semantics.proofs.LaidOut.{laid_along}
use Rattle.css_judged.specs.Judged.{Judged, broken_by_call, main_reply, main_after, is_call, is_of_body, AreOfBody, IsMainAt}
use Rattle.css_judged.proofs.MainReplies.{room_behind}

-- ---- main goes on

by_main_behind : (action : Action) → is_call action ≡ false → body_after None action ≡ None
by_main_behind (Calls call) none = absurd (cc)
by_main_behind Returns none = refl
by_main_behind _ none = refl

memory_spent : (s : Metered Judged) (action : Action) → (spending main_after s action).state.memory ≡ after s.state.memory action
memory_spent s (Enter size) = refl
memory_spent s Turn = refl
memory_spent s _ = refl

objects_spent : (s : Metered Judged) (action : Action) → (spending main_after s action).state.objects ≡ pending_after true s.state.objects action
objects_spent s (Enter size) = refl
objects_spent s Turn = refl
objects_spent s _ = refl

units_spent : (s : Metered Judged) (action : Action) → (spending main_after s action).units ≡ s.units - unit_of action
units_spent s (Enter size) = refl
units_spent s Turn = refl
units_spent s _ = omega arith

-- behind what main does that isn't a call
pub acts : (limits : Limits) (start : FlatState) (tape : Tape) (s : Metered Judged) (i : Item) → is_call i.action ≡ false → IsMainAt limits start tape s → IsMainAt limits start (i ∷ tape) (spending main_after s i.action)
acts limits start tape s i none at = record {
  by_main = ap (λ o. body_after o i.action) at.by_main ∙ by_main_behind i.action none;
  memory = memory_spent s i.action ∙ ap (λ (m : Memory). after m i.action) at.memory;
  objects = objects_spent s i.action ∙ ap (λ objects. pending_after true objects i.action) at.objects
      ∙ ap (λ o. pending_after (is_none o) (pending tape) i.action) (sym at.by_main);
  units =
      let here : main_units (i ∷ tape) ≡ main_units tape + unit_of i.action =
      ap (λ o. if is_none o then main_units tape + unit_of i.action else main_units tape) at.by_main in
      omega (arith, units_spent s i.action, at.units, here);
}

no_call : (action : Action) → IsTrue (is_of_machine action || is_fault action) → is_call action ≡ false
no_call (Calls call) machine = absurd (cc)
no_call _ machine = refl

-- behind what a machine adds
pub stays : (limits : Limits) (start : FlatState) (tape : Tape) (s : Metered Judged) (more : Tape) → IsMainAt limits start tape s → AreOfMachine more → IsMainAt limits start (more ++ tape) (state_after (spending main_after) s more)
stays limits start tape s [] at machine = at
stays limits start tape s (i ∷ more) at machine =
    acts limits start (more ++ tape) (state_after (spending main_after) s more) i (no_call i.action machine.0) (stays limits start tape s more at machine.1)

-- ---- replies

-- an entry or a turn, by whether it is too deep, and the units
unit_reply : (deep room : Bool) (limit used x : ℕ) → (deep ≡ false → room ≡ true) → (left : ℕ) → left ≡ limit - used
    → judged_reply (first_broken (check rules.Unsynchronised false ∷ check rules.MainStack deep ∷ check rules.Units (nat_le limit used) ∷ [])) (if room then Says x else Refuses rules.MainStack)
    ≡ within left (judged_reply (first_broken (check rules.Unsynchronised false ∷ check rules.MainStack deep ∷ [])) (if room then Says x else Refuses rules.MainStack))
unit_reply true room limit used x fine zero left = refl
unit_reply true room limit used x fine (suc n) left = refl
unit_reply false room limit used x fine zero left =
    let none : nat_le limit used ≡ true = grind (arith, nat_tests) in
    rw (fine refl, none)
unit_reply false room limit used x fine (suc n) left =
    let some : nat_le limit used ≡ false = grind (arith, nat_tests) in
    rw (fine refl, some)

abbrev answer : Memory → List Object → Action → Reply
answer m objects action = main_reply (record { memory = m; objects = objects }) action

start_reply : (started : Bool) → judged_reply (first_broken (check rules.StartTwice started ∷ [])) (Says 0) ≡ (if started then Refuses rules.StartTwice else Says 0)
start_reply true = refl
start_reply false = refl

finish_reply : (started : Bool) → judged_reply (first_broken (check rules.FinishWithout (not started) ∷ [])) (Says 0) ≡ (if started then Says 0 else Refuses rules.FinishWithout)
finish_reply true = refl
finish_reply false = refl

-- what the rules say where this is the task that runs
abbrev hit_by : Memory → Limits → Tape → Action → Option Body → Option Rule
hit_by m limits tape action o =
    elim o [
      | None ↦ first_broken (checks_of_main m limits tape action)
      | Some b ↦ first_broken (checks_of_task limits b action)
    ]

module _ (limits : Limits) (start : FlatState) (in_range : IsInRange limits) (starts : IsStart limits.memory start) (tape : Tape) (s : Metered Judged) (at : IsMainAt limits start tape s) where
  abbrev now : Memory
  now = memory_after start.memory tape

  room_now : (size : ℕ) → is_main_too_deep now (Enter size) ≡ false → has_room now size ≡ true
  room_now size shallow =
      let laid = laid_along limits.memory start.memory tape starts.laid_out in
      let large : 2097152 ≤ now.end = omega (arith, in_range.memory.0, laid.end) in
      ap (λ limit. has_room (record now { limit = limit }) size) laid.limit ∙ room_behind now size large shallow

  same_answer : (action : Action) → answer now (pending tape) action ≡ main_reply s.state action
  same_answer action =
      ap (λ (m : Memory). answer m (pending tape) action) (sym at.memory) ∙ ap (λ objects. answer s.state.memory objects action) (sym at.objects)

  by_rules : (action : Action) → IsTrue (is_of_machine action) → judged_reply (first_broken (checks_of_main now limits tape action)) (reply_in (flat_at start tape) action) ≡ metered main_reply s action
  by_rules (Enter size) asked =
      unit_reply (is_main_too_deep now (Enter size)) (has_room now size) limits.main_units (main_units tape) (stack_place now - size) (room_now size) s.units at.units
      ∙ ap (within s.units) (same_answer (Enter size))
  by_rules Turn asked = unit_reply false true limits.main_units (main_units tape) 0 (λ h. refl) s.units at.units
  by_rules (Leave base size) asked = same_answer (Leave base size)
  by_rules (Load address width) asked = same_answer (Load address width)
  by_rules (Store address bytes) asked = same_answer (Store address bytes)
  by_rules (Out bytes) asked = absurd (cc)
  by_rules In asked = absurd (cc)
  by_rules (Malloc size) asked = absurd (cc)
  by_rules (Calls call) asked = absurd (cc)
  by_rules Returns asked = absurd (cc)
  by_rules Start asked = absurd (cc)
  by_rules Finish asked = absurd (cc)
  by_rules Barrier asked = absurd (cc)
  by_rules (Wait address) asked = absurd (cc)
  by_rules WaitFault asked = absurd (cc)
  by_rules DimFault asked = absurd (cc)
  by_rules (Fault kind) asked = absurd (cc)
  by_rules (End result) asked = absurd (cc)

  same_reply : (i : Item) → IsTrue (is_of_machine i.action) → judged_in limits start tape i ≡ metered main_reply s i.action
  same_reply i asked =
      ap (λ o. judged_reply (hit_by now limits tape i.action o) (reply_in (flat_at start tape) i.action)) at.by_main ∙ by_rules i.action asked

-- the judged world replies to a machine as main's memory does
pub follows : (limits : Limits) (start : FlatState) (tape : Tape) (s : Metered Judged) → IsInRange limits → IsStart limits.memory start → IsMainAt limits start tape s → Follows (judged_in limits start) (metered main_reply) (spending main_after) tape s
follows limits start tape s in_range starts at = record {
  replies = λ more i machine asked.
      same_reply limits start in_range starts (more ++ tape) (state_after (spending main_after) s more) (stays limits start tape s more at machine) i asked;
}

-- ---- what main asks itself

module _ (limits : Limits) (start : FlatState) (tape : Tape) (s : Metered Judged) (at : IsMainAt limits start tape s) (line : ℕ) where
  judged_by : (action : Action) → judged_in limits start tape (item action line)
      ≡ judged_reply (first_broken (checks_of_main (memory_after start.memory tape) limits tape action)) (reply_in (flat_at start tape) action)
  judged_by action =
      ap (λ o. judged_reply (hit_by (memory_after start.memory tape) limits tape action o) (reply_in (flat_at start tape) action)) at.by_main

  pub asks_out : (bytes : List ℕ) → judged_in limits start tape (item (Out bytes) line) ≡ Says (length bytes)
  asks_out bytes = judged_by (Out bytes)

  pub asks_start : judged_in limits start tape (item Start line) ≡ (if is_started tape then Refuses rules.StartTwice else Says 0)
  asks_start = judged_by Start ∙ start_reply (is_started tape)

  pub asks_finish : judged_in limits start tape (item Finish line) ≡ (if is_started tape then Says 0 else Refuses rules.FinishWithout)
  asks_finish = judged_by Finish ∙ finish_reply (is_started tape)

  pub asks_barrier : judged_in limits start tape (item Barrier line) ≡ Says 0
  asks_barrier = judged_by Barrier

  pub asks_end : (result : ℤ) → judged_in limits start tape (item (End result) line) ≡ Says 0
  asks_end result = judged_by (End result)

  pub asks_call : (call : Call) → judged_in limits start tape (item (Calls call) line) ≡ judged_reply (broken_by_call limits s.state call.arguments) (Says 1)
  asks_call call =
      judged_by (Calls call)
      ∙ ap (λ (m : Memory). judged_reply (broken_by_call limits (record { memory = m; objects = pending tape }) call.arguments) (Says 1)) (sym at.memory)
      ∙ ap (λ objects. judged_reply (broken_by_call limits (record { memory = s.state.memory; objects = objects }) call.arguments) (Says 1)) (sym at.objects)

-- ---- a task's call

of_body : (action : Action) → IsTrue (is_of_machine action || is_fault action) → IsTrue (is_of_body action)
of_body (Enter size) machine = machine
of_body Turn machine = machine
of_body (Leave base size) machine = machine
of_body (Load address width) machine = machine
of_body (Store address bytes) machine = machine
of_body (Fault kind) machine = machine
of_body _ machine = absurd (cc)

-- what a machine asks may come from a task's body
pub are_of_body : (more : Tape) → AreOfMachine more → AreOfBody more
are_of_body [] machine = tt
are_of_body (i ∷ more) machine = (of_body i.action machine.0, are_of_body more machine.1)

-- a task's body goes on, nothing else becomes pending, and main takes no unit
pub record InTask (before tape : Tape) : Type 0 where
  pub inside : is_none (body tape) ≡ false
  pub objects : pending tape ≡ pending before
  pub units : main_units tape ≡ main_units before

inside_behind : (o : Option Body) (action : Action) → IsTrue (is_of_body action) → is_none o ≡ false → is_none (body_after o action) ≡ false
inside_behind None action of_body inside = absurd (cc)
inside_behind (Some b) (Calls call) of_body inside = refl
inside_behind (Some b) Returns of_body inside = absurd (cc)
inside_behind (Some b) _ of_body inside = refl

pending_behind : (objects : List Object) (action : Action) → IsTrue (is_of_body action) → pending_after false objects action ≡ objects
pending_behind objects (Enter size) of_body = refl
pending_behind objects Turn of_body = refl
pending_behind objects (Leave base size) of_body = refl
pending_behind objects (Load address width) of_body = refl
pending_behind objects (Store address bytes) of_body = refl
pending_behind objects (Out bytes) of_body = refl
pending_behind objects In of_body = refl
pending_behind objects (Malloc size) of_body = refl
pending_behind objects (Fault kind) of_body = refl
pending_behind objects _ of_body = absurd (cc)

in_task : (before more : Tape) → is_none (body before) ≡ false → AreOfBody more → InTask before (more ++ before)
in_task before [] inside of_body = record { inside = inside; objects = refl; units = refl }
in_task before (i ∷ more) inside of_body =
    let rest = in_task before more inside of_body.1 in
    record {
      inside = inside_behind (body (more ++ before)) i.action of_body.0 rest.inside;
      objects = ap (λ b. pending_after b (pending (more ++ before)) i.action) rest.inside ∙ pending_behind (pending (more ++ before)) i.action of_body.0 ∙ rest.objects;
      units = ap (λ b. if b then main_units (more ++ before) + unit_of i.action else main_units (more ++ before)) rest.inside ∙ rest.units;
    }

-- behind a whole call of a task, where the memory is this
pub calls : (limits : Limits) (start : FlatState) (tape : Tape) (s : Metered Judged) (call : Call) (called returned : ℕ) (more : Tape) (m : Memory) → IsMainAt limits start tape s → AreOfBody more
    → m ≡ memory_after start.memory (item Returns returned ∷ (more ++ item (Calls call) called ∷ tape))
    → IsMainAt limits start (item Returns returned ∷ (more ++ item (Calls call) called ∷ tape)) (with_units (record { memory = m; objects = fold with_argument s.state.objects call.arguments }) s.units)
calls limits start tape s call called returned more m at of_body is =
    let before : Tape = item (Calls call) called ∷ tape in
    let rest = in_task before more refl of_body in
    let here : pending before ≡ fold with_argument s.state.objects call.arguments =
    ap (λ o. pending_after (is_none o) (pending tape) (Calls call)) at.by_main ∙ ap (λ objects. fold with_argument objects call.arguments) (sym at.objects) in
    let used : main_units before ≡ main_units tape + 0 = ap (λ o. if is_none o then main_units tape + 0 else main_units tape) at.by_main in
    record {
      by_main = refl;
      memory = is;
      objects = sym (ap (λ b. pending_after b (pending (more ++ before)) Returns) rest.inside ∙ rest.objects ∙ here);
      units =
          let all : main_units (item Returns returned ∷ (more ++ before)) ≡ main_units before =
          ap (λ b. if b then main_units (more ++ before) + 0 else main_units (more ++ before)) rest.inside ∙ rest.units in
          omega (arith, at.units, all, used);
    }

-- the memory behind a whole call is what the body makes of it
pub called_memory : (limits : Limits) (start : FlatState) (tape : Tape) (s : Metered Judged) (call : Call) (called returned : ℕ) (more : Tape) → IsMainAt limits start tape s
    → memory_after start.memory (item Returns returned ∷ (more ++ item (Calls call) called ∷ tape)) ≡ memory_after s.state.memory more
called_memory limits start tape s call called returned more at =
    after_both after start.memory more (item (Calls call) called ∷ tape) ∙ ap (λ (m : Memory). memory_after m more) (sym at.memory)

-- A call of a plain task under the rules: its task by itself, and where main goes on.
use Rattle.std.proofs.Common.{◌≡◌, Bool, ℕ, zero, suc, ◌+◌, ◌-◌, ◌%◌, ◌^◌, ◌<◌, ◌≤◌, false, List, [], ◌∷◌, ◌++◌, length, map, fold, Option, Some, None, slice_get, refl, sym, ap, ◌∙◌, subst, arith}
use Rattle.std.proofs.lemmas.List.{append-nil}
use Rattle.css_base.specs.Limits.{IsInRange}
use Rattle.css_base.specs.declared.direction.Direction.TheVariants.{InOut}
use Rattle.css_base.specs.declared.limits.Limits.{Limits}
use Rattle.css_base.specs.declared.ending.Ending.TheVariants as endings
use Rattle.css_base.specs.declared.ending.Stop.{Stop}
use Rattle.css_base.specs.declared.ending.Stop.TheVariants as stops
use Rattle.css_base.specs.declared.ending.Who.TheVariants as whose
use Rattle.css_base.specs.declared.rule.Rule.{Rule}
use Rattle.css_in_place.specs.InPlace.{IsAtCall, IsBodyTape, behind, written_back}
use Rattle.css_in_place.specs.Main.{LeavesMain}
use Rattle.css_in_place.specs.Records.{IsOfCall, HasInputs, FitsAtCall, RunsAsRecord, by_itself, inputs_of}
use Rattle.css_in_place.specs.Waits.{ComesBack, waiting, back}
use Rattle.css_in_place.proofs.AtCall.{runs_alike}
use Rattle.css_in_place.proofs.BodyTapes.{leaves_main}
use Rattle.css_in_place.proofs.Callers.{waits_for}
use Rattle.css_in_place.proofs.Records.{as_record, fits_at_call}
use Rattle.css_judged.specs.Judged.{IsMainAt, broken_by_call, plain_argument, main_place}
use Rattle.css_judged.proofs.MainTapes.{asks_call, calls, are_of_body}
use Rattle.css_record.specs.declared.task_record.TaskRecord.{TaskRecord}
use Rattle.css_record.specs.Records as records
use Rattle.css_semantics.specs.Dialogue.{Calls, Returns, Call, Tape, Reply, Says, Refuses, World, Outcome, Goes, Stops, Stopped, then_do, replied, ask, item, output}
use Rattle.css_semantics.specs.Alone.{outs_after, alone_world}
use Rattle.css_semantics.specs.Flat.{FlatState, in_memory, IsStart}
use Rattle.css_semantics.specs.Memory.{Memory, memory_after, stack_place}
use Rattle.css_semantics.specs.Pending.{with_argument}
use Rattle.css_semantics.specs.WithWindow.{with_window}
use Rattle.css_semantics.specs.Rules.{hit, judged_reply}
use Rattle.css_semantics.specs.Tasks.{plain, use_of, windows, called, inside}
use Rattle.css_semantics.specs.Units.{with_units}
use Rattle.css_semantics.specs.Verdict.{verdict_with, judged_in, who_runs, bytes_of_window}
use Rattle.css_semantics.specs.Worlds.{AreOfMachine}
use Rattle.css_task.specs.Alone.{End, Outs, Halted, ComesTo}
use Rattle.css_task.proofs.OneTask.{comes_alone}
use Rattle.css_vm.specs.declared.code.ArgShape.TheVariants as shapes
use Rattle.css_vm.specs.declared.machine.Event.TheVariants as events
use Rattle.css_vm.specs.declared.machine.Submitted.{Submitted}
use Rattle.css_vm.specs.Code.{Routine, Shape, Code, call_of, pointers_of, scalars_of, narrowed_to}
use Rattle.css_vm.specs.Events.{behind_call, base_of}
use Rattle.css_vm.specs.Machine.{State, Begin, At, Activation, Caller, Halt, IsOwed, answered, exec, go_on, main_ends, alone}
use Rattle.css_vm.specs.Soundness.{Spot, IsSound}
use Rattle.css_main_side.specs.Calls.{PointsTo, IsAllowed, IsRecordOf, TaskEnds, TaskReturns, TaskStops, IsRefused, behind_task}
use Rattle.css_main_side.specs.Events.{with_answer}
use Rattle.css_main_side.specs.Plain.{IsPlainShape, HasPlainTasks}
use Rattle.css_main_side.specs.Playing.{main_frame, Side, Stands}
use Rattle.css_main_side.proofs.Turns.{Moves, ComesToEnd, ToEvent}

-- ---- the call

-- a call with one pointer to four bytes
abbrev pub plain_call : (function base place : ℕ) → (is_high : Bool) → Call
plain_call function base place is_high = record { function = function; scalars = []; arguments = plain_argument base ∷ []; stack_place = place; is_high = is_high }

call_by : (function : ℕ) (parts : List _) (parameters arguments dimensions : List ℕ) (base place : ℕ) (is_high : Bool) → parts ≡ shapes.Window InOut 4 0 false ∷ [] → parameters ≡ 4 ∷ [] → arguments ≡ base ∷ [] → base < 2 ^ 32
    → record { function = function; scalars = scalars_of parts (narrowed_to parameters arguments); arguments = pointers_of parts (narrowed_to parameters arguments) dimensions; stack_place = place; is_high = is_high } ≡ plain_call function base place is_high
call_by function parts parameters arguments dimensions base place is_high one four is fits =
    let low : base % 2 ^ 32 ≡ base = omega arith in
    rw (one, four, is) (ap (λ b. plain_call function b place is_high) low)

pub call_is : (f : Routine) (s : Shape) (function base place : ℕ) (arguments dimensions : List ℕ) → IsPlainShape f s → arguments ≡ base ∷ [] → base < 2 ^ 32
    → call_of function f s arguments dimensions place ≡ plain_call function base place s.high
call_is f s function base place arguments dimensions p is fits = call_by function s.arguments f.parameters arguments dimensions base place s.high p.arguments p.parameters is fits

-- the reply of a world that judges says that no rule is broken
none_broken : (o : Option Rule) (reply : Reply) (value : ℕ) → judged_reply o reply ≡ Says value → o ≡ None
none_broken None reply value is = refl
none_broken (Some rule) reply value is = absurd (cc)

module _ (limits : Limits) (start : FlatState) (code : Code) (plans : List (List Spot)) (sound : IsSound code plans) (tasks : HasPlainTasks code) (in_range : IsInRange limits) (starts : IsStart limits.memory start)
    (side : Side) (st : Stands limits start side) (s : Submitted) (base : ℕ) (to : PointsTo s base) (allowed : IsAllowed limits side base)
    (f : Routine) (shape : Shape) (function : slice_get code.functions s.function ≡ Some f) (task : f.task ≡ Some shape) where
  abbrev place : ℕ
  place = base_of side.machine

  is_plain : IsPlainShape f shape
  is_plain = tasks s.function f shape function task

  abbrev the_call : Call
  the_call = call_of s.function f shape s.arguments.items s.dims.items (base_of side.machine)

  call_same : the_call ≡ plain_call s.function base place shape.high
  call_same = call_is f shape s.function base place s.arguments.items s.dims.items is_plain to.argument to.fits

  abbrev at_call : Tape
  at_call = item (Calls the_call) s.line ∷ st.so_far

  abbrev world : World
  world = judged_in limits start

  reply_is : world st.so_far (item (Calls the_call) s.line) ≡ Says 1
  reply_is =
      asks_call limits start st.so_far side.space st.at s.line the_call
      ∙ ap (λ (c : Call). judged_reply (broken_by_call limits side.space.state c.arguments) (Says 1)) call_same
      ∙ ap (λ o. judged_reply o (Says 1)) allowed.none

  memory_same : side.space.state.memory ≡ memory_after start.memory st.so_far
  memory_same = st.at.memory

  pub in_call : IsAtCall code limits start at_call s.function s.arguments.items s.line (map use_of the_call.arguments) place
  in_call = record {
    routine = f;
    shape = shape;
    dimensions = s.dims.items;
    before = st.so_far;
    function = function;
    task = task;
    call = refl;
    counts = ap length to.argument ∙ sym (ap length is_plain.parameters);
    uses_are = refl;
    by_main = st.at.by_main;
    allowed = none_broken (hit start.memory limits st.so_far (Calls the_call)) (in_memory start st.so_far (item (Calls the_call) s.line)) 1 reply_is;
    in_range = in_range;
    starts = starts;
    within = subst (λ (m : Memory). (length m.stack ≤ 1048576) × (m.calls ≤ 32768)) memory_same allowed.within;
    place_is = allowed.place ∙ ap stack_place memory_same;
  }

  module _ (r : TaskRecord) (of : IsRecordOf r code s side.called (main_place side.space.state) base) where
    pub of_call : IsOfCall r the_call s.line
    of_call = record {
      function = of.function;
      scalars = of.scalars ∙ sym (ap (λ (c : Call). c.scalars) call_same);
      windows = of.windows ∙ sym (ap windows call_same);
      place = of.place_is ∙ sym allowed.place;
      high = of.high f shape function task;
      line = of.line;
    }

    uses_are : records.uses shape r ≡ record { window = plain base 4; direction = InOut } ∷ []
    uses_are = rw (is_plain.arguments, of.windows) refl

    has_inputs : HasInputs shape r
    has_inputs = rw (of.inputs, uses_are) refl

    pub fits : FitsAtCall code start at_call shape r
    unfolding in_call
    fits = fits_at_call code plans sound limits start at_call s.function s.arguments.items s.line (map use_of the_call.arguments) place in_call r of_call has_inputs

    alike : RunsAsRecord code limits start at_call s.function s.arguments.items s.line shape r
    unfolding in_call
    alike =
        as_record code plans sound limits start at_call s.function s.arguments.items s.line (map use_of the_call.arguments) place in_call r of_call
        (runs_alike code plans sound limits start at_call s.function s.arguments.items s.line (map use_of the_call.arguments) place in_call)

    inputs_are : inputs_of start at_call shape r ≡ bytes_of_window side.space.state.memory (plain base 4) ∷ []
    inputs_are = rw (uses_are, sym memory_same) refl

    -- ---- the run of the call

    module _ (a : Activation) (callers : List Caller) (p owed : ℕ) (rest : List ℕ) (machine_is : side.machine ≡ At a callers p (owed ∷ rest)) where
      abbrev calling : ℕ → Outcome Halt
      calling n =
          then_do (ask world (Calls the_call) s.line st.so_far) (λ r t. then_do (behind_call world s.line s.function f s.arguments.items r side.machine t) (go_on (exec world code n)))

      abbrev waits : ℕ → Outcome Halt
      waits = waiting world code a callers s.line p s.function f s.arguments.items 0 owed rest at_call

      abbrev goes_back : ℕ → Tape → Outcome Halt
      goes_back = back world code a callers p rest

      run_is : (n : ℕ) → calling n ≡ waits n
      run_is n =
          ap (λ q. then_do (replied q (item (Calls the_call) s.line) st.so_far) (λ r t. then_do (behind_call world s.line s.function f s.arguments.items r side.machine t) (go_on (exec world code n)))) reply_is
          ∙ ap (λ m. then_do (behind_call world s.line s.function f s.arguments.items 1 m at_call) (go_on (exec world code n))) machine_is

      comes_back : (n : ℕ) → ComesBack waits goes_back n (behind (by_itself code limits start at_call shape r (suc n)) at_call)
      comes_back n =
          subst (ComesBack waits goes_back n) (alike.dialogue (suc n)) (waits_for world code a callers s.line p s.function f s.arguments.items 0 owed rest n at_call function)

      -- where the task by itself returns, so many steps lead back to main
      returns_back : (n cell : ℕ) (t : Tape) → by_itself code limits start at_call shape r n ≡ Goes (Some cell) t
          → (steps : ℕ) × ((more : ℕ) → calling (steps + more) ≡ exec world code more (At a callers p (0 ∷ rest)) (t ++ at_call))
      returns_back zero cell t e = absurd (cc)
      returns_back (suc n) cell t e =
          let led = subst (λ o. ComesBack waits goes_back n (behind o at_call)) e (comes_back n) in
          (led.0, λ more. run_is (led.0 + more) ∙ led.1 more)

      -- where it stops, so does main
      stops_there : (n : ℕ) (stop : Stop) (line : ℕ) (t : Tape) → by_itself code limits start at_call shape r n ≡ Stops (Stopped stop line) t
          → (steps : ℕ) × (calling steps ≡ Stops (Stopped stop line) (t ++ at_call))
      stops_there zero stop line t e = absurd (cc)
      stops_there (suc n) stop line t e =
          let led = subst (λ o. ComesBack waits goes_back n (behind o at_call)) e (comes_back n) in
          (n, run_is n ∙ led)

    -- ---- what it leaves

    leaves : (asked : Tape) → AreOfMachine asked → LeavesMain start.memory at_call asked
    leaves asked machine = leaves_main start.memory at_call refl asked machine

    module _ (n cell : ℕ) (t : Tape) (e : by_itself code limits start at_call shape r n ≡ Goes (Some cell) t)
        (bytes : List ℕ) (others : List (List ℕ)) (outs_are : outs_after (records.uses shape r) (inputs_of start at_call shape r) r.stack_place t ≡ bytes ∷ others) where
      memory_left : memory_after start.memory (t ++ at_call) ≡ with_window side.space.state.memory (plain base 4) bytes
      memory_left =
          alike.memory n cell t e
          ∙ ap (λ outs. written_back (memory_after start.memory at_call) (records.uses shape r) outs) outs_are
          ∙ ap (λ us. written_back (memory_after start.memory at_call) us (bytes ∷ others)) uses_are
          ∙ ap (λ m. with_window m (plain base 4) bytes) (sym memory_same)

      is_body : IsBodyTape (Goes (Some cell) t)
      is_body = subst IsBodyTape e (alike.tape_is n)

      pub stands_behind : (there : Stands limits start (behind_task side base bytes)) × (there.so_far ≡ t ++ at_call) × (output there.so_far ≡ output st.so_far)
      stands_behind =
          let asked = is_body.0 in
          let returned = is_body.1 in
          let tape_is : t ++ at_call ≡ item Returns returned ∷ (asked ++ at_call) = ap (λ x. x ++ at_call) is_body.2 in
          let m_is = sym memory_left ∙ ap (memory_after start.memory) tape_is in
          let at = calls limits start st.so_far side.space the_call s.line returned asked (with_window side.space.state.memory (plain base 4) bytes) st.at (are_of_body asked is_body.3) m_is in
          let stays = (leaves asked is_body.3).behind returned in (
            record {
              so_far = item Returns returned ∷ (asked ++ at_call);
              at =
                  subst (λ (c : Call). IsMainAt limits start (item Returns returned ∷ (asked ++ at_call))
                  (with_units (record { memory = with_window side.space.state.memory (plain base 4) bytes; objects = fold with_argument side.space.state.objects c.arguments }) side.space.units))
                  call_same at;
              started_is = stays.started ∙ st.started_is;
              called_is = stays.called ∙ ap (λ k. k + 1) st.called_is;
            },
            sym tape_is,
            stays.output ∙ append-nil (output st.so_far),
          )

-- ---- ends of tasks

-- a machine that is owed an answer
owed_cell : (m : State) → IsOwed m → (a : Activation) × (callers : List Caller) × (p : ℕ) × (owed : ℕ) × (rest : List ℕ) × (m ≡ At a callers p (owed ∷ rest))
owed_cell (Begin function arguments line) owed = absurd owed
owed_cell (At a callers p []) owed = absurd owed
owed_cell (At a callers p (x ∷ rest)) owed = (a, callers, p, x, rest, refl)

first_of : (outs : List (List ℕ)) (bytes : List ℕ) → slice_get outs 0 ≡ Some bytes → (others : List (List ℕ)) × (outs ≡ bytes ∷ others)
first_of [] bytes is = absurd (cc)
first_of (out ∷ others) bytes is = let same : out ≡ bytes = cc in (others, ap (λ o. o ∷ others) same)

module _ (limits : Limits) (start : FlatState) (code : Code) (plans : List (List Spot)) (sound : IsSound code plans) (tasks : HasPlainTasks code) (in_range : IsInRange limits) (starts : IsStart limits.memory start)
    (old mid : Side) (st : Stands limits start old) (s : Submitted) (t : ToEvent limits start code (events.Submit s) old mid st) where
  abbrev w : World
  w = judged_in limits start

  abbrev f : Routine
  f = t.does.1

  abbrev shape : Shape
  shape = t.does.2

  module _ (base : ℕ) (end : End) (ends : TaskEnds limits code s mid base end) where
    abbrev inputs : List (List ℕ)
    inputs = bytes_of_window mid.space.state.memory (plain base 4) ∷ []

    task_end : ComesTo code ends.rec shape inputs limits end
    task_end = comes_alone code ends.rec inputs limits.task_units end ends.alone f shape limits (record { function = ap (λ k. slice_get code.functions k) ends.is_of.function ∙ t.does.3; task = t.does.4 }) refl

    abbrev given : Tape
    given = at_call limits start code plans sound tasks in_range starts mid t.there s base ends.to ends.allowed f shape t.does.3 t.does.4

    given_is : inputs_of start given shape ends.rec ≡ inputs
    given_is = inputs_are limits start code plans sound tasks in_range starts mid t.there s base ends.to ends.allowed f shape t.does.3 t.does.4 ends.rec ends.is_of

  -- a call whose task returns
  pub at_return : (new : Side) → IsOwed mid.machine → TaskReturns limits code s mid new → Moves limits start code old (with_answer 0 new) [] st
  at_return new owed r =
      let base = r.base in
      let ends = r.ends in
      let end = task_end base (Outs r.outs) ends in
      let cell = owed_cell mid.machine owed in
      let is_given = given_is base (Outs r.outs) ends in
      let e : by_itself code limits start (given base (Outs r.outs) ends) shape ends.rec end.0 ≡ Goes (Some end.1) end.2 =
      subst (λ (i : List (List ℕ)). alone (alone_world limits (records.uses shape ends.rec) i ends.rec.stack_place) code ends.rec.function (records.arguments shape ends.rec) ends.rec.line end.0 ≡ Goes (Some end.1) end.2) (sym is_given) end.3 in
      let first = first_of r.outs r.bytes r.out in
      let outs_are : outs_after (records.uses shape ends.rec) (inputs_of start (given base (Outs r.outs) ends) shape ends.rec) ends.rec.stack_place end.2 ≡ r.bytes ∷ first.0 =
      ap (λ i. outs_after (records.uses shape ends.rec) i ends.rec.stack_place end.2) is_given ∙ sym end.4 ∙ first.1 in
      let led = returns_back limits start code plans sound tasks in_range starts mid t.there s base ends.to ends.allowed f shape t.does.3 t.does.4 ends.rec ends.is_of cell.0 cell.1 cell.2 cell.3 cell.4 cell.5 end.0 end.1 end.2 e in
      let left = stands_behind limits start code plans sound tasks in_range starts mid t.there s base ends.to ends.allowed f shape t.does.3 t.does.4 ends.rec ends.is_of end.0 end.1 end.2 e r.bytes first.0 outs_are in
      let moves : Moves limits start code old (with_answer 0 (behind_task mid base r.bytes)) [] st = record {
        there = record { so_far = left.0.so_far; at = left.0.at; started_is = left.0.started_is; called_is = left.0.called_is };
        steps = t.does.0 + suc led.0;
        goes = λ n.
            let sum : t.does.0 + suc (led.0 + n) ≡ (t.does.0 + suc led.0) + n = omega arith in
            subst (λ k. exec w code k old.machine st.so_far ≡ exec w code n (answered 0 mid.machine) left.0.so_far) sum
            (t.does.5 (led.0 + n) ∙ led.1 n
            ∙ ap (λ m. exec w code n (answered 0 m) (end.2 ++ given base (Outs r.outs) ends)) (sym cell.5)
            ∙ ap (λ tape. exec w code n (answered 0 mid.machine) tape) (sym left.1));
        wrote = left.2 ∙ t.wrote ∙ sym (append-nil (output st.so_far));
      } in
      subst (λ x. Moves limits start code old (with_answer 0 x) [] st) (sym r.new_is) moves

  -- a call whose task stops
  pub at_task_stop : (task : ℕ) (stop : Stop) (line : ℕ) → IsOwed mid.machine → TaskStops limits code s mid task stop line → ComesToEnd limits start code old (endings.Stopped stop line (whose.Task task)) st
  at_task_stop task stop line owed r =
      let base = r.base in
      let ends = r.ends in
      let end = task_end base (Halted stop line) ends in
      let cell = owed_cell mid.machine owed in
      let is_given = given_is base (Halted stop line) ends in
      let here = given base (Halted stop line) ends in
      let e : by_itself code limits start here shape ends.rec end.0 ≡ Stops (Stopped stop line) end.1 =
      subst (λ (i : List (List ℕ)). alone (alone_world limits (records.uses shape ends.rec) i ends.rec.stack_place) code ends.rec.function (records.arguments shape ends.rec) ends.rec.line end.0 ≡ Stops (Stopped stop line) end.1) (sym is_given) end.2 in
      let led = stops_there limits start code plans sound tasks in_range starts mid t.there s base ends.to ends.allowed f shape t.does.3 t.does.4 ends.rec ends.is_of cell.0 cell.1 cell.2 cell.3 cell.4 cell.5 end.0 stop line end.1 e in
      let asked : AreOfMachine end.1 =
      subst IsBodyTape e ((alike limits start code plans sound tasks in_range starts mid t.there s base ends.to ends.allowed f shape t.does.3 t.does.4 ends.rec ends.is_of).tape_is end.0) in
      let left = leaves limits start code plans sound tasks in_range starts mid t.there s base ends.to ends.allowed f shape t.does.3 t.does.4 ends.rec ends.is_of end.1 asked in
      let number : (called t.there.so_far + 1) - 1 ≡ task = (let n : (called t.there.so_far + 1) - 1 ≡ called t.there.so_far = omega arith in n ∙ t.there.called_is ∙ sym r.task_is) in
      let who : who_runs (inside (end.1 ++ here)) ≡ whose.Task task = ap who_runs left.inside ∙ ap (λ n. whose.Task n) number in
      record {
        steps = t.does.0 + suc led.0;
        last = Stops (Stopped stop line) (end.1 ++ here);
        goes = ap (λ q. then_do q (main_ends w (main_frame code))) (t.does.5 led.0 ∙ led.1);
        its = verdict_with start.memory (end.1 ++ here) (endings.Stopped stop line (who_runs (inside (end.1 ++ here))));
        is = refl;
        ending_is = ap (λ x. endings.Stopped stop line x) who;
        wrote = left.body.output ∙ append-nil (output t.there.so_far) ∙ t.wrote;
      }

  -- a call that a rule refuses
  pub at_refusal : (rule : Rule) → IsRefused limits s mid rule → ComesToEnd limits start code old (endings.Stopped (stops.Rule rule) s.line whose.Main) st
  at_refusal rule r =
      let later = t.there.so_far in
      let the_call = call_of s.function f shape s.arguments.items s.dims.items (base_of mid.machine) in
      let same = call_is f shape s.function r.base (base_of mid.machine) s.arguments.items s.dims.items (tasks s.function f shape t.does.3 t.does.4) r.to.argument r.to.fits in
      let refuses : w later (item (Calls the_call) s.line) ≡ Refuses rule =
      asks_call limits start later mid.space t.there.at s.line the_call
      ∙ ap (λ (c : Call). judged_reply (broken_by_call limits mid.space.state c.arguments) (Says 1)) same
      ∙ ap (λ o. judged_reply o (Says 1)) r.broken in
      let stopped : exec w code (t.does.0 + suc zero) old.machine st.so_far ≡ Stops (Stopped (stops.Rule rule) s.line) later =
      t.does.5 zero
      ∙ ap (λ q. then_do (replied q (item (Calls the_call) s.line) later) (λ r t'. then_do (behind_call w s.line s.function f s.arguments.items r mid.machine t') (go_on (exec w code zero)))) refuses in
      record {
        steps = t.does.0 + suc zero;
        last = Stops (Stopped (stops.Rule rule) s.line) later;
        goes = ap (λ q. then_do q (main_ends w (main_frame code))) stopped;
        its = verdict_with start.memory later (endings.Stopped (stops.Rule rule) s.line (who_runs (inside later)));
        is = refl;
        ending_is = rw t.there.at.by_main refl;
        wrote = t.wrote;
      }

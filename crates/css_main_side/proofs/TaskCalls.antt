-- The task of a call that breaks no rule.
use Rattle.std.proofs.Common.{◌≡◌, ℕ, ◌%◌, ◌^◌, ◌<◌, ◌≤◌, List, [], ◌∷◌, length, Some, None, slice_get, refl, sym, ap, ◌∙◌, subst, arith}
use Rattle.std.proofs.lemmas.Bool.Decides.{nat_tests}
use Rattle.css_base.specs.Limits.{IsInRange}
use Rattle.css_base.specs.declared.limits.Limits.{Limits}
use Rattle.css_io.specs.Changes.{Change}
use Rattle.css_judged.specs.Judged.{call_checks, broken_by_call, plain_argument, main_place}
use Rattle.css_record.specs.declared.task_record.TaskRecord.{TaskRecord}
use Rattle.css_record.specs.Records.{FitsCode}
use Rattle.css_record.specs.Records as records
use Rattle.css_semantics.specs.Alone.{outs_after}
use Rattle.css_semantics.specs.Dialogue.{Tape}
use Rattle.css_semantics.specs.Flat.{FlatState, IsStart}
use Rattle.css_semantics.specs.Memory.{Memory}
use Rattle.css_semantics.specs.Rules.{room_of}
use Rattle.css_semantics.proofs.Checks.{are_kept}
use Rattle.css_semantics.specs.Tasks.{Use, plain}
use Rattle.css_semantics.specs.Verdict.{bytes_of_window}
use Rattle.css_task.specs.Alone.{End, Outs, Halted, IsAlone, TaskOf}
use Rattle.css_task.proofs.OneTask.{comes_alone}
use Rattle.css_vm.specs.declared.machine.Submitted.{Submitted}
use Rattle.css_vm.specs.Code.{Code, narrowed_to}
use Rattle.css_vm.specs.Events.{IsWhole, base_of}
use Rattle.css_vm.specs.Soundness.{Spot, IsSound}
use Rattle.css_yard.specs.declared.answer.YardAnswer.{YardAnswer}
use Rattle.css_yard.specs.declared.answer.YardAnswer.TheVariants as answers
use Rattle.css_main_side.specs.Alone.{MayRun, ComesAlone, StopsAlone}
use Rattle.css_main_side.specs.Calls.{PointsTo, IsAllowed, IsRecordOf, TaskEnds, TaskReturns, AnswersStop, EndsUnreturned, CallEnds, Stops, Failed, behind_task}
use Rattle.css_main_side.specs.declared.ran.Ran.{Ran}
use Rattle.css_main_side.specs.Plain.{HasPlainTasks}
use Rattle.css_main_side.specs.Playing.{Side, Stands}
use Rattle.css_main_side.proofs.Calls.{fits}
use Rattle.css_main_side.proofs.Yards.{may_run, its_use}

pub four_bytes : (m : Memory) (base : ℕ) → length (bytes_of_window m (plain base 4)) ≡ 4
four_bytes m base = refl

some_same : (x y : List ℕ) → Some x ≡ Some y → x ≡ y
some_same x y e = cc

out_by : (uses : List Use) (inputs : List (List ℕ)) (place : ℕ) (tape : Tape) (base : ℕ) (outs : List (List ℕ)) (value : List ℕ) → uses ≡ its_use base ∷ [] → outs ≡ outs_after uses inputs place tape
    → slice_get outs 0 ≡ Some value → length value ≡ 4
out_by uses inputs place tape base outs value one are first =
    let here = sym (ap (λ os. slice_get os 0) (are ∙ ap (λ us. outs_after us inputs place tape) one)) ∙ first in
    sym (ap length (some_same _ value here))

module _ (limits : Limits) (start : FlatState) (code : Code) (plans : List (List Spot)) (sound : IsSound code plans) (tasks : HasPlainTasks code) (in_range : IsInRange limits) (starts : IsStart limits.memory start)
    (side : Side) (st : Stands limits start side) (s : Submitted) (base : ℕ) (to : PointsTo s base) (whole : IsWhole code s)
    (none : broken_by_call limits side.space.state (plain_argument base ∷ []) ≡ None) (place : base_of side.machine ≡ main_place side.space.state)
    (deep : length side.space.state.memory.stack ≤ 1048576) (many : side.space.state.memory.calls ≤ 32768)
    (r : TaskRecord) (of : IsRecordOf r code s side.called (main_place side.space.state) base) where
  allowed : IsAllowed limits side base
  allowed = record { none = none; place = place; within = (deep, many) }

  fits_code : FitsCode code r
  fits_code = (fits limits start code plans sound tasks in_range starts side st s base to allowed whole.function whole.shape whole.is_there whole.is_task r of).fits

  its_uses : records.uses whole.shape r ≡ its_use base ∷ []
  its_uses =
      let p = tasks s.function whole.function whole.shape whole.is_there whole.is_task in
      rw (p.arguments, of.windows) refl

  of_task : TaskOf code r whole.function whole.shape
  of_task = record { function = ap (λ k. slice_get code.functions k) of.function ∙ whole.is_there; task = whole.is_task }

  -- the local store has room for it
  room : room_of (plain base 4 ∷ []) ≤ limits.local_store
  room =
      let fits = (are_kept (call_checks limits side.space.state (plain_argument base ∷ [])) none).1.0 in
      grind (arith, nat_tests)

  pub task_may_run : (its_code : Code) (its_limits : Limits) (bytes : List ℕ) → its_code ≡ code → its_limits ≡ limits → bytes ≡ bytes_of_window side.space.state.memory (plain base 4) → MayRun its_code its_limits r bytes
  task_may_run its_code its_limits bytes same limits_are is =
      subst (λ c. MayRun c its_limits r bytes) (sym same)
      (subst (λ l. MayRun code l r bytes) (sym limits_are)
      (may_run code tasks r s side.called (main_place side.space.state) base of fits_code bytes (ap length is ∙ four_bytes side.space.state.memory base) limits room))

  module _ (its_code : Code) (units : ℕ) (bytes : List ℕ) (same : its_code ≡ code) (units_are : units ≡ limits.task_units)
      (is : bytes ≡ bytes_of_window side.space.state.memory (plain base 4)) where
    ends_as : (end : End) → IsAlone its_code r (bytes ∷ []) units end → TaskEnds limits code s side base end
    ends_as end alone = record {
      to = to;
      allowed = allowed;
      rec = r;
      is_of = of;
      alone =
          subst (λ c. IsAlone c r (bytes_of_window side.space.state.memory (plain base 4) ∷ []) limits.task_units end) same
          (subst (λ b. IsAlone its_code r (b ∷ []) limits.task_units end) is (subst (λ u. IsAlone its_code r (bytes ∷ []) u end) units_are alone));
    }

    pub out_length : (value : List ℕ) → ComesAlone its_code r bytes units value → length value ≡ 4
    unfolding ends_as
    out_length value comes =
        let end =
        comes_alone code r (bytes_of_window side.space.state.memory (plain base 4) ∷ []) limits.task_units (Outs comes.outs) (ends_as (Outs comes.outs) comes.alone).alone whole.function whole.shape limits of_task refl in
        out_by (records.uses whole.shape r) (bytes_of_window side.space.state.memory (plain base 4) ∷ []) r.stack_place end.2 base comes.outs value its_uses end.4 comes.out

    pub task_returns : (value : List ℕ) (new : Side) → ComesAlone its_code r bytes units value → new ≡ behind_task side base value → TaskReturns limits code s side new
    task_returns value new comes is_new = record {
      base = base;
      outs = comes.outs;
      bytes = value;
      ends = ends_as (Outs comes.outs) comes.alone;
      out = comes.out;
      new_is = is_new;
    }

    pub task_stops : (answer : YardAnswer) → StopsAlone its_code r bytes units answer → AnswersStop limits code s side answer
    task_stops (answers.Stopped task stop line) stops = record { base = base; ends = ends_as (Halted stop line) stops.1; task_is = stops.0 ∙ of.number_is }
    task_stops answers.NoMemory stops = tt

-- ---- the pointer

-- one argument of at most 4 bytes
pointed : (arguments : List ℕ) → length arguments ≡ 1 → narrowed_to (4 ∷ []) arguments ≡ arguments → (base : ℕ) × (arguments ≡ base ∷ []) × (base < 2 ^ 32)
pointed [] one low = absurd (omega (arith, one))
pointed (a ∷ []) one low =
    let same : a % 2 ^ 32 ≡ a = cc in
    (a, refl, omega arith)
pointed (a ∷ b ∷ others) one low = absurd (omega (arith, one))

pub points : (code : Code) → HasPlainTasks code → (s : Submitted) → IsWhole code s → (base : ℕ) × PointsTo s base
points code tasks s whole =
    let p = tasks s.function whole.function whole.shape whole.is_there whole.is_task in
    let found = pointed s.arguments.items (whole.arguments ∙ ap length p.parameters) (ap (λ ws. narrowed_to ws s.arguments.items) (sym p.parameters) ∙ whole.narrowed) in
    (found.0, record { argument = found.1; fits = found.2 })

-- where a call's task doesn't return
pub unreturned : (limits : Limits) (code : Code) (s : Submitted) (side : Side) (answer : YardAnswer) (pending : List ℕ) (c : Change) (ran : Ran) → AnswersStop limits code s side answer
    → EndsUnreturned answer pending c ran → CallEnds limits code s side pending c ran
unreturned limits code s side (answers.Stopped task stop line) pending c ran stops is = Stops task stop line stops is
unreturned limits code s side answers.NoMemory pending c ran stops is = Failed is

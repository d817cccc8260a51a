-- What main does at each event, as parts of its run.
use Rattle.std.proofs.Common.{◌≡◌, ℕ, zero, suc, ◌+◌, ◌-◌, take, drop, List, [], ◌∷◌, length, Option, Some, None, IfSome, IfNone, refl, sym, ap, ◌∙◌, subst}
use Rattle.css_base.specs.Limits.{IsInRange}
use Rattle.css_base.specs.declared.limits.Limits.{Limits}
use Rattle.css_base.specs.declared.ending.Ending.TheVariants as endings
use Rattle.css_base.specs.declared.ending.Stop.{Stop}
use Rattle.css_base.specs.declared.ending.Who.TheVariants.{Main}
use Rattle.css_io.specs.Changes.{Change}
use Rattle.css_judged.specs.Judged.{Judged, main_reply, main_after, main_place}
use Rattle.css_semantics.specs.Flat.{FlatState, IsStart}
use Rattle.css_semantics.specs.Memory.{Memory, stack_place, stored}
use Rattle.css_semantics.specs.WithWindow.{with_rows}
use Rattle.css_semantics.proofs.StackPlaces.{length-overlaid}
use Rattle.css_semantics.specs.Units.{Metered, metered, spending}
use Rattle.css_vm.specs.declared.code.MarkKind.{MarkKind}
use Rattle.css_vm.specs.declared.code.MarkKind.TheVariants as marks
use Rattle.css_vm.specs.declared.machine.Event.{Event}
use Rattle.css_vm.specs.declared.machine.Event.TheVariants as events
use Rattle.css_vm.specs.declared.machine.Submitted.{Submitted}
use Rattle.css_vm.specs.Code.{Code}
use Rattle.css_vm.specs.Events.{Reaches, IsInside, IsStacked, base_of}
use Rattle.css_vm.specs.Machine.{State, Begin, At, IsOwed, answered}
use Rattle.css_vm.specs.Soundness.{Spot, IsSound}
use Rattle.css_main_side.specs.Calls.{CallEnds, Broken, Stops, Failed, AnswersCall}
use Rattle.css_main_side.specs.Events.{with_answer, Marked, MarkEnds, left_with, finished_space, reply_to_leaving}
use Rattle.css_main_side.specs.Plain.{HasPlainTasks}
use Rattle.css_main_side.specs.Playing.{Side, Stands, EndsRun}
use Rattle.css_main_side.specs.Ran.{RanAs}
use Rattle.css_main_side.specs.declared.ran.Ran.{Ran}
use Rattle.css_main_side.proofs.Calls.{at_return, at_task_stop, at_refusal}
use Rattle.css_main_side.proofs.RunParts.{ends_so, fails}
use Rattle.css_main_side.proofs.Turns.{Moves, ToEvent, at_event, to_event, at_stop, at_out, at_question, at_start, at_finish, at_barrier, at_second_start, at_needless_finish, at_end}

-- ---- results

pub on_none : {A : Type 0} {P Q : Type 0} (o : Option A) → (P → Q) → IfNone o P → IfNone o Q
on_none (Some a) go h = tt
on_none None go h = go h

pub on_none2 : {A : Type 0} {P P' Q : Type 0} (o : Option A) → (P → P' → Q) → IfNone o P → IfNone o P' → IfNone o Q
on_none2 (Some a) go h h' = tt
on_none2 None go h h' = go h h'

pub on_some : {A : Type 0} {P Q : A → Type 0} (o : Option A) → ((a : A) → P a → Q a) → IfSome o P → IfSome o Q
on_some (Some a) go h = go a h
on_some None go h = tt

module _ (limits : Limits) (start : FlatState) (code : Code) (in_range : IsInRange limits) (starts : IsStart limits.memory start) (old : Side) (machine : State) (space : Metered Judged) where
  abbrev mid : Side
  mid = at_event old machine space

  abbrev Comes : Event → Type 0
  Comes e = Reaches (metered main_reply) (spending main_after) code old.machine old.space e machine space

  abbrev There : Event → Type 0
  There e = (st : Stands limits start old) → ToEvent limits start code e old mid st

  there : (e : Event) → (r : Comes e) → r.end ≡ space → There e
  there e r is st = to_event limits start code in_range starts old machine space st e r is

  pub stands_there : (e : Event) → (r : Comes e) → r.end ≡ space → Stands limits start old → Stands limits start mid
  stands_there e r is st = (there e r is st).there

  abbrev MovesTo : Side → List ℕ → Type 0
  MovesTo new bytes = (st : Stands limits start old) → Moves limits start code old new bytes st

  to_new : (a new : Side) (bytes : List ℕ) → new ≡ a → MovesTo a bytes → MovesTo new bytes
  to_new a new bytes is moves = subst (λ x. MovesTo x bytes) (sym is) moves

  -- an output
  pub out_moves : (bytes : List ℕ) (new : Side) → Comes (events.Out bytes) → new ≡ with_answer (length bytes) mid → MovesTo new bytes
  out_moves bytes new r is =
      to_new (with_answer (length bytes) mid) new bytes is (λ st. at_out limits start code in_range starts old machine space st mid bytes (there (events.Out bytes) r r.is_left st))

  -- a mark
  pub mark_moves : (kind : MarkKind) (line : ℕ) (new : Side) → Comes (events.Mark kind line) → Marked kind mid new → MovesTo new []
  mark_moves marks.Started line new r is =
      to_new _ new [] is (λ st. at_question limits start code in_range starts old machine space st mid line (there (events.Mark marks.Started line) r r.is_left st))
  mark_moves marks.Start line new r is =
      to_new _ new [] is.1 (λ st. at_start limits start code in_range starts old machine space st mid line (there (events.Mark marks.Start line) r r.is_left st) is.0)
  mark_moves marks.Finish line new r is =
      to_new _ new [] is.1 (λ st. at_finish limits start code in_range starts old machine space st mid line (there (events.Mark marks.Finish line) r r.is_left st) is.0)
  mark_moves marks.Barrier line new r is =
      to_new _ new [] is (λ st. at_barrier limits start code in_range starts old machine space st mid line (there (events.Mark marks.Barrier line) r r.is_left st))

  pub mark_ends : (kind : MarkKind) (line : ℕ) (pending : List ℕ) (c : Change) (ran : Ran) → Comes (events.Mark kind line) → MarkEnds kind line mid pending c ran → EndsRun limits start code old pending c ran
  mark_ends marks.Started line pending c ran r is = absurd is
  mark_ends marks.Start line pending c ran r is =
      ends_so limits start code old pending c ran _ (λ st. at_second_start limits start code in_range starts old machine space st mid line (there (events.Mark marks.Start line) r r.is_left st) is.0) is.1
  mark_ends marks.Finish line pending c ran r is =
      ends_so limits start code old pending c ran _ (λ st. at_needless_finish limits start code in_range starts old machine space st mid line (there (events.Mark marks.Finish line) r r.is_left st) is.0) is.1
  mark_ends marks.Barrier line pending c ran r is = absurd is

  -- a mark that goes on leaves the machine at its place
  pub mark_machine : (kind : MarkKind) (new : Side) → Marked kind mid new → (P : State → Type 0) → P machine → ((value : ℕ) → P (answered value machine)) → P new.machine
  mark_machine marks.Started new is P as_was with_value = subst (λ (x : Side). P x.machine) (sym is) (with_value _)
  mark_machine marks.Start new is P as_was with_value = subst (λ (x : Side). P x.machine) (sym is.1) as_was
  mark_machine marks.Finish new is P as_was with_value = subst (λ (x : Side). P x.machine) (sym is.1) as_was
  mark_machine marks.Barrier new is P as_was with_value = subst (λ (x : Side). P x.machine) (sym is) as_was

  -- main's end
  pub end_ends : (value line : ℕ) (pending : List ℕ) (c : Change) (ran : Ran) → Comes (events.Ended value line) → base_of machine ≡ main_place space.state
      → RanAs (left_with (reply_to_leaving code (finished_space old.is_started space.state)) value line) pending c ran → EndsRun limits start code old pending c ran
  end_ends value line pending c ran r place is =
      ends_so limits start code old pending c ran _ (λ st. at_end limits start code in_range starts old mid st value line (there (events.Ended value line) r r.is_left st) place) is

  pub stop_ends : (stop : Stop) (line : ℕ) (pending : List ℕ) (c : Change) (ran : Ran) → Comes (events.Stopped stop line) → RanAs (endings.Stopped stop line Main) pending c ran → EndsRun limits start code old pending c ran
  stop_ends stop line pending c ran r is = ends_so limits start code old pending c ran _ (λ st. at_stop limits start code in_range starts old machine space st stop line r) is

  -- ---- calls

  module _ (plans : List (List Spot)) (sound : IsSound code plans) (tasks : HasPlainTasks code) (s : Submitted) (r : Comes (events.Submit s)) (owed : IsOwed machine) where
    pub call_moves : (new : Side) → AnswersCall limits code s mid new → MovesTo new []
    call_moves new answers =
        to_new (with_answer 0 answers.0) new [] answers.2 (λ st. at_return limits start code plans sound tasks in_range starts old mid st s (there (events.Submit s) r r.is_left st) answers.0 owed answers.1)

    pub call_ends : (pending : List ℕ) (c : Change) (ran : Ran) → CallEnds limits code s mid pending c ran → EndsRun limits start code old pending c ran
    call_ends pending c ran (Broken rule refused is) =
        ends_so limits start code old pending c ran _ (λ st. at_refusal limits start code plans sound tasks in_range starts old mid st s (there (events.Submit s) r r.is_left st) rule refused) is
    call_ends pending c ran (Stops task stop line stops is) =
        ends_so limits start code old pending c ran _ (λ st. at_task_stop limits start code plans sound tasks in_range starts old mid st s (there (events.Submit s) r r.is_left st) task stop line owed stops) is
    call_ends pending c ran (Failed failed) = fails limits start code old pending c ran failed

  -- a call that goes on leaves the machine answered
  pub call_machine : (s : Submitted) (new : Side) → AnswersCall limits code s mid new → new.machine ≡ answered 0 machine
  call_machine s new answers = ap (λ (x : Side). x.machine) answers.2 ∙ ap (λ (x : Side). answered 0 x.machine) answers.1.new_is

  -- ---- the stack

  rows_place : (rows : ℕ) (m : Memory) (base width stride : ℕ) (bytes : List ℕ) → stack_place (with_rows m rows base width stride bytes) ≡ stack_place m
  rows_place zero m base width stride bytes = refl
  rows_place (suc rows) m base width stride bytes =
      rows_place rows (stored m base (take width bytes)) (base + stride) width stride (drop width bytes)
      ∙ ap (λ n. m.end - n) (length-overlaid (stack_place m) m.stack base (take width bytes))

  pub call_place : (s : Submitted) (new : Side) → AnswersCall limits code s mid new → main_place new.space.state ≡ main_place space.state
  call_place s new answers =
      ap (λ (x : Side). main_place x.space.state) answers.2
      ∙ ap (λ (x : Side). main_place x.space.state) answers.1.new_is
      ∙ rows_place 1 space.state.memory answers.1.base 4 4 answers.1.bytes

-- a machine inside a function has its frame at the space's stack place
pub at_place : (code : Code) (place : ℕ) (s : State) → IsInside s → IsStacked code place s → base_of s ≡ place
at_place code place (Begin function arguments line) inside stacked = absurd inside
at_place code place (At a callers at stack) inside stacked = stacked.0

pub owed_place : (code : Code) (place : ℕ) (s : State) → IsOwed s → IsStacked code place s → base_of s ≡ place
owed_place code place (Begin function arguments line) owed stacked = absurd owed
owed_place code place (At a callers at []) owed stacked = stacked.0
owed_place code place (At a callers at (x ∷ stack)) owed stacked = stacked.0

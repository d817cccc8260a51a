-- A machine over a task's space, from its start on through its questions.
use Rattle.std.proofs.Common.{◌≡◌, ℕ, suc, ◌+◌, Bool, false, List, [], ◌∷◌, ◌++◌, append_assoc, zero-add, refl, ap, sym, subst, ◌∙◌, arith}
use Rattle.std.proofs.lemmas.List.{append-nil}
use Rattle.css_semantics.specs.Dialogue.{Out, Calls, Start, Finish, Barrier, Call, Tape, World, Stops, Tired, item, tape_of, then_do}
use Rattle.css_semantics.specs.Worlds.{state_after, world_of, AreOfMachine, Follows}
use Rattle.css_semantics.specs.Units.{Metered, metered, spending}
use Rattle.css_semantics.specs.Tasks.{is_started}
use Rattle.css_task.specs.Cells.{Kept, kept_reply, kept_after}
use Rattle.css_semantics.proofs.Following.{after_both, both_of_machine, follows_on, same_started}
use Rattle.css_vm.specs.declared.code.MarkKind.{MarkKind}
use Rattle.css_vm.specs.declared.code.MarkKind.TheVariants as marks
use Rattle.css_vm.specs.declared.machine.Event.{Event}
use Rattle.css_vm.specs.declared.machine.Event.TheVariants as events
use Rattle.css_vm.specs.declared.machine.Submitted.{Submitted}
use Rattle.css_vm.specs.Cells.{truth}
use Rattle.css_vm.specs.Code.{Routine, Code}
use Rattle.css_vm.specs.Machine.{State, Begin, At, go_on, exec, answered}
use Rattle.css_vm.specs.Events.{Reaches, Does, IsStacked, behind_call}
use Rattle.css_vm.specs.Soundness.{Spot, IsSound}
use Rattle.css_task.specs.Quiet.{IsQuietState}
use Rattle.css_task.specs.Arrivals.{Arrives, GoesOn}
use Rattle.css_task.proofs.Quiet.{exec_quiet}

-- an answer moves no frame
pub answered_stacked : (code : Code) (place value : ℕ) (s : State) → IsStacked code place s → IsStacked code place (answered value s)
answered_stacked code place value (Begin function arguments line) stacked = stacked
answered_stacked code place value (At a callers at []) stacked = stacked
answered_stacked code place value (At a callers at (x ∷ rest)) stacked = stacked

-- ---- what goes before an event

module _ (w : World) (code : Code) (old mid : State) (tape : Tape) (before : ℕ) (leads : (n : ℕ) → exec w code (before + n) old [] ≡ exec w code n mid tape) where
  moved : (steps n : ℕ) → exec w code (before + steps + suc n) old [] ≡ exec w code (steps + suc n) mid tape
  moved steps n =
      let whole : before + steps + suc n ≡ before + (steps + suc n) = omega arith in
      ap (λ k. exec w code k old []) whole ∙ leads (steps + suc n)

  does_from : (e : Event) (new : State) (later : Tape) → Does w code mid e new tape later → Does w code old e new [] later
  does_from (events.Out bytes) new later does = (before + does.0, does.1, λ n. moved does.0 n ∙ does.2 n)
  does_from (events.Submit s) new later does = (before + does.0, does.1, does.2, does.3, does.4, λ n. moved does.0 n ∙ does.5 n)
  does_from (events.Mark marks.Start line) new later does = (before + does.0, λ n. moved does.0 n ∙ does.1 n)
  does_from (events.Mark marks.Finish line) new later does = (before + does.0, λ n. moved does.0 n ∙ does.1 n)
  does_from (events.Mark marks.Barrier line) new later does = (before + does.0, λ n. moved does.0 n ∙ does.1 n)
  does_from (events.Mark marks.Started line) new later does = (before + does.0, λ n. moved does.0 n ∙ does.1 n)
  does_from (events.Ended value line) new later does = (before + does.0, λ n. moved does.0 n ∙ does.1 n)
  does_from (events.Stopped stop line) new later does = (before + does.0, λ n. moved does.0 n ∙ does.1 n)

module _ (code : Code) (old : State) (start : Metered Kept) where
  pub goes_nowhere : GoesOn code old start old start
  goes_nowhere = record { goes = λ w follows. ([], tt, refl, (0, λ n. ap (λ k. exec w code k old []) (zero-add n))) }

  module _ (mid : State) (at : Metered Kept) (so_far : GoesOn code old start mid at) where
    pub arrives : (e : Event) (new : State) (space' : Metered Kept) → Reaches (metered kept_reply) (spending kept_after) code mid at e new space' → Arrives code old start e new space'
    arrives e new space' reaches = record {
      end = reaches.end;
      is_left = reaches.is_left;
      does = λ w follows.
          let a = so_far.goes w follows in
          let follows' = subst (λ (s : Metered Kept). Follows w (metered kept_reply) (spending kept_after) (a.0 ++ []) s) a.2 (follows_on w (metered kept_reply) (spending kept_after) [] start a.0 a.1 follows) in
          let b = reaches.does w (a.0 ++ []) follows' in (
            b.0 ++ a.0,
            both_of_machine b.0 a.0 b.1 a.1,
            after_both (spending kept_after) start b.0 a.0 ∙ ap (λ (s : Metered Kept). state_after (spending kept_after) s b.0) a.2 ∙ b.2,
            subst (λ t. Does w code old e new [] t) (sym (append_assoc b.0 a.0 [])) (does_from w code old mid (a.0 ++ []) a.3.0 a.3.1 e new (b.0 ++ (a.0 ++ [])) b.3),
          );
    }

  -- a task makes none
  pub goes_on : (line : ℕ) (new : State) (space' : Metered Kept) → Arrives code old start (events.Mark marks.Started line) new space' → GoesOn code old start (answered 0 new) space'
  goes_on line new space' arrived = record {
    goes = λ w follows.
        let a = arrived.does w follows in
        let none : is_started (a.0 ++ []) ≡ false = same_started a.0 [] a.1 in (
          a.0,
          a.1,
          a.2 ∙ arrived.is_left,
          (
            a.3.0 + 1,
            λ n.
                let one : a.3.0 + 1 + n ≡ a.3.0 + suc n = omega arith in
                ap (λ k. exec w code k old []) one ∙ a.3.1 n ∙ ap (λ (b : Bool). exec w code n (answered (truth b) new) (a.0 ++ [])) none,
          ),
        );
  }

  -- ---- events that don't come

  abbrev w : World
  w = world_of (metered kept_reply) (spending kept_after) start

  follows : Follows w (metered kept_reply) (spending kept_after) [] start
  follows = record { replies = λ more i of_machine asked. ap (λ t. metered kept_reply (state_after (spending kept_after) start t) i.action) (append-nil more) }

  module _ (plans : List (List Spot)) (sound : IsSound code plans) (quiet : IsQuietState code old) where
    quiet_tape : (steps : ℕ) (tape : Tape) → exec w code steps old [] ≡ Stops Tired tape → AreOfMachine tape
    quiet_tape steps tape is = subst (λ o. AreOfMachine (tape_of o)) is (exec_quiet w code plans sound steps old [] quiet tt)

    pub no_out : (bytes : List ℕ) (new : State) (space' : Metered Kept) → Arrives code old start (events.Out bytes) new space' → ⊥
    no_out bytes new space' arrived =
        let a = arrived.does w follows in
        let asked = quiet_tape (a.3.0 + 1) (item (Out bytes) a.3.1 ∷ (a.0 ++ [])) (a.3.2 0) in
        absurd (cc asked.0)

    -- a task's call stands on the tape
    called : (new : State) (line k : ℕ) (f : Routine) (arguments : List ℕ) (call : Call) (tape : Tape)
        → AreOfMachine (tape_of (then_do (behind_call w line k f arguments 0 new (item (Calls call) line ∷ tape)) (go_on (exec w code 0)))) → ⊥
    called (At a callers place (owed ∷ rest)) line k f arguments call tape asked = absurd (cc asked.0)
    called (At a callers place []) line k f arguments call tape asked = absurd (cc asked.0)
    called (Begin function values at) line k f arguments call tape asked = absurd (cc asked.0)

    pub no_submit : (s : Submitted) (new : State) (space' : Metered Kept) → Arrives code old start (events.Submit s) new space' → ⊥
    no_submit s new space' arrived =
        let a = arrived.does w follows in
        let quiet_end = subst (λ o. AreOfMachine (tape_of o)) (a.3.5 0) (exec_quiet w code plans sound (a.3.0 + 1) old [] quiet tt) in
        called new s.line s.function a.3.1 s.arguments.items _ (a.0 ++ []) quiet_end

    pub only_asks : (kind : MarkKind) (line : ℕ) (new : State) (space' : Metered Kept) → Arrives code old start (events.Mark kind line) new space' → kind ≡ marks.Started
    only_asks marks.Start line new space' arrived =
        let a = arrived.does w follows in
        let asked = quiet_tape (a.3.0 + 1) (item Start line ∷ (a.0 ++ [])) (a.3.1 0) in
        absurd (cc asked.0)
    only_asks marks.Finish line new space' arrived =
        let a = arrived.does w follows in
        let asked = quiet_tape (a.3.0 + 1) (item Finish line ∷ (a.0 ++ [])) (a.3.1 0) in
        absurd (cc asked.0)
    only_asks marks.Barrier line new space' arrived =
        let a = arrived.does w follows in
        let asked = quiet_tape (a.3.0 + 1) (item Barrier line ∷ (a.0 ++ [])) (a.3.1 0) in
        absurd (cc asked.0)
    only_asks marks.Started line new space' arrived = refl

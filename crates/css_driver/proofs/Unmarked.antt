-- Code without marks makes no task and comes to no mark, but one that asks whether tasks are made.
use Rattle.std.proofs.Common.{◌≡◌, ℕ, zero, suc, ◌+◌, ◌∷◌, [], ◌++◌, IsTrue, refl, sym, ap, ◌∙◌, subst}
use Rattle.std.specs.List.{AllByRecursion}
use Rattle.std.proofs.lemmas.List.{append-nil}
use Rattle.css_semantics.specs.Dialogue.{Action, Enter, Turn, Leave, Load, Store, Out, In, Malloc, Calls, Returns, Start, Finish, Barrier, Wait, WaitFault, DimFault, Fault, End, Call, Item, Tape, Reply, Says, World, Outcome, item, then_do, tape_of}
use Rattle.css_semantics.specs.Worlds.{state_after, world_of, is_of_machine, AreOfMachine, Follows}
use Rattle.css_semantics.specs.Memory.{Memory, after}
use Rattle.css_semantics.specs.Units.{Metered, metered, spending}
use Rattle.css_semantics.specs.Flat.{memory_reply}
use Rattle.css_vm.specs.declared.code.MarkKind.{MarkKind}
use Rattle.css_vm.specs.declared.code.MarkKind.TheVariants as marks
use Rattle.css_vm.specs.declared.machine.Event.TheVariants as events
use Rattle.css_vm.specs.declared.machine.Submitted.{Submitted}
use Rattle.css_vm.specs.Code.{Routine, Code}
use Rattle.css_vm.specs.Machine.{State, Begin, At, go_on, exec}
use Rattle.css_vm.specs.Events.{Reaches, behind_call}
use Rattle.css_small_code.specs.Marks.{HasNoMarks}
use Rattle.css_driver.proofs.Exec.{Extends, IsUnmarked, exec-extends}

-- A world that replies as a memory with units does, but runs no task's body.
passing : Action → Reply → Reply
passing (Calls call) reply = Says 0
passing action reply = reply

passed : Metered Memory → World
passed space tape i = passing i.action (world_of (metered memory_reply) (spending after) space tape i)

passes_machine : (action : Action) (reply : Reply) → IsTrue (is_of_machine action) → passing action reply ≡ reply
unfolding passing
passes_machine (Enter size) reply h = refl
passes_machine Turn reply h = refl
passes_machine (Leave base size) reply h = refl
passes_machine (Load address width) reply h = refl
passes_machine (Store address bytes) reply h = refl
passes_machine (Out bytes) reply h = refl
passes_machine In reply h = refl
passes_machine (Malloc size) reply h = refl
passes_machine (Calls call) reply h = absurd (cc)
passes_machine Returns reply h = refl
passes_machine Start reply h = refl
passes_machine Finish reply h = refl
passes_machine Barrier reply h = refl
passes_machine (Wait address) reply h = refl
passes_machine WaitFault reply h = refl
passes_machine DimFault reply h = refl
passes_machine (Fault kind) reply h = refl
passes_machine (End result) reply h = refl

follows : (space : Metered Memory) → Follows (passed space) (metered memory_reply) (spending after) [] space
unfolding passed
follows space = record {
  replies = λ more i of_machine asked.
      passes_machine i.action _ asked ∙ ap (λ t. metered memory_reply (state_after (spending after) space t) i.action) (append-nil more);
}

module _ (code : Code) (plain : HasNoMarks code) (old new : State) (space space' : Metered Memory) where
  -- all that a run asks is no mark and no call of a task
  unmarked : (w : World) (n : ℕ) (last : Tape) → tape_of (exec w code n old []) ≡ last → AllByRecursion (λ (i : Item). IsUnmarked i.action) last
  unmarked w n last is =
      let grown = exec-extends w code plain n old [] in
      subst (λ t. AllByRecursion (λ (i : Item). IsUnmarked i.action) t) (sym (append-nil grown.news) ∙ sym grown.is ∙ is) grown.all

  -- behind the item of a task's call there is no way that hasn't it
  task_marked : (s : Submitted) (f : Routine) (call : Call) (state : State) (later : Tape)
      → AllByRecursion (λ (i : Item). IsUnmarked i.action) (tape_of (then_do (behind_call (passed space) s.line s.function f s.arguments.items 0 state (item (Calls call) s.line ∷ later)) (go_on (exec (passed space) code 0)))) → ⊥
  unfolding passed passing
  task_marked s f call (Begin function arguments line) later all = all.0
  task_marked s f call (At a callers place []) later all = all.0
  task_marked s f call (At a callers place (owed ∷ rest)) later all = all.1.0

  pub no_task : (s : Submitted) → Reaches (metered memory_reply) (spending after) code old space (events.Submit s) new space' → ⊥
  unfolding passed passing
  no_task s reaches =
      let w = passed space in
      let there = reaches.does w [] (follows space) in
      let does = there.3 in
      task_marked s does.1 _ new _ (unmarked w (does.0 + 1) _ (ap tape_of (does.5 0)))

  pub only_asks : (kind : MarkKind) (line : ℕ) → Reaches (metered memory_reply) (spending after) code old space (events.Mark kind line) new space' → kind ≡ marks.Started
  unfolding passed passing
  only_asks marks.Started line reaches = refl
  only_asks marks.Start line reaches =
      let there = reaches.does (passed space) [] (follows space) in
      absurd (unmarked (passed space) (there.3.0 + 1) _ (ap tape_of (there.3.1 0))).0
  only_asks marks.Finish line reaches =
      let there = reaches.does (passed space) [] (follows space) in
      absurd (unmarked (passed space) (there.3.0 + 1) _ (ap tape_of (there.3.1 0))).0
  only_asks marks.Barrier line reaches =
      let there = reaches.does (passed space) [] (follows space) in
      absurd (unmarked (passed space) (there.3.0 + 1) _ (ap tape_of (there.3.1 0))).0

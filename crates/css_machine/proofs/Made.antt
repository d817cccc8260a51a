-- What the instructions do that are events.
use Rattle.std.proofs.Common.{◌≡◌, ℕ, ◌+◌, ◌≤◌, Bool, true, false, if◌then◌else◌, List, ◌∷◌, length, Some, slice_get, refl, ap, ap₂, subst, ◌∙◌}
use Rattle.css_base.specs.declared.int_type.IntType.TheVariants as types
use Rattle.css_semantics.specs.Dialogue.{Out, In, Malloc, Start, Finish, Barrier, Wait, Tape, World}
use Rattle.css_semantics.specs.Tasks.{makes_tasks}
use Rattle.css_isa.specs.declared.code.Op.{Op}
use Rattle.css_isa.specs.declared.code.Op.TheVariants as ops
use Rattle.css_isa.specs.declared.code.Conversion.{Conversion}
use Rattle.css_isa.specs.declared.code.Mark.TheVariants as isa_marks
use Rattle.css_isa.specs.Cells.{address_of, text_of, truth}
use Rattle.css_isa.specs.Code.{Routine, Code}
use Rattle.css_isa.specs.Roles.{role_of}
use Rattle.css_isa.specs.Steps.{Activation, Caller, State, Begin, At, Requests, Notifies, Tests, act, step_of}
use Rattle.css_isa.specs.Machine.{exec}
use Rattle.css_isa.specs.Soundness.{Fits, cells_needed, AreNamed, IsPlainAt}
use Rattle.css_machine.specs.declared.event.MarkKind.TheVariants as marks
use Rattle.css_machine.specs.declared.event.Event.TheVariants as events
use Rattle.css_machine.specs.Events.{mode_of}
use Rattle.css_machine.specs.States.{stack_of, moved, topped, dropped}
use Rattle.css_machine.specs.Steps.{HasInstr, IsBefore, Makes}
use Rattle.css_machine.proofs.Inside.{by_step, act_at, leads_at}
use Rattle.css_machine.proofs.Rows.{plan_at}

-- ---- at an instruction

-- the step there
pub step_here : (code : Code) (f : Routine) (a : Activation) (callers : List Caller) (place line : ℕ) (op : Op) (stack : List ℕ) → slice_get code.functions a.function ≡ Some f → HasInstr f place op line
    → step_of code (At a callers place stack) ≡ act code a callers line place (role_of op) op stack
step_here code f a callers place line op stack is has =
    act_at code f has.0 (role_of has.0.op) a callers place stack is has.1 refl
    ∙ ap₂ (λ (o : Op) l. act code a callers l place (role_of o) o stack) has.2 has.3

-- what a sound machine finds there
pub finds_before : (code : Code) (op : Op) (line : ℕ) (s : State) → Fits code s → IsBefore code op line s → (cells_needed code (role_of op) ≤ length (stack_of s)) × AreNamed code (role_of op) × IsPlainAt code (role_of op) (mode_of s)
finds_before code op line (Begin function arguments at) fits before = absurd before
finds_before code op line (At a callers at stack) fits before =
    let plan = plan_at code fits.0 before.0 a callers at stack fits.2.0 fits.1 before.1 fits.2.1 in
    let each = plan.2.each at (record { height = length stack; mode = a.mode; rank = plan.1 }) plan.3 in
    let i = before.2.0 in
    let same : each.0 ≡ i = cc (each.1, before.2.1) in
    let is : each.0.op ≡ op = ap (λ (j : _). j.op) same ∙ before.2.2 in
    subst (λ (o : Op). (cells_needed code (role_of o) ≤ length stack) × AreNamed code (role_of o) × IsPlainAt code (role_of o) a.mode) is (each.2.finds, each.2.names, each.2.is_plain)

-- ---- events

module _ (code : Code) (line : ℕ) where
  -- bytes are written
  pub makes_out : (conversion : Conversion) (s : State) (cell : ℕ) (rest : List ℕ) → IsBefore code (ops.Out conversion) line s → stack_of s ≡ cell ∷ rest → Makes code s (events.Out (text_of conversion cell) line) (moved s)
  makes_out conversion (Begin function arguments at) cell rest before top = absurd before
  makes_out conversion (At a callers at stack) cell rest before top =
      let old = At a callers at (cell ∷ rest) in
      let st = Requests a.mode (Out (text_of conversion cell)) line types.ULongLong (At a callers (at + 1) rest) in
      let is : step_of code old ≡ st = step_here code before.0 a callers at line (ops.Out conversion) (cell ∷ rest) before.1 before.2 in
      rw top (record {
        does = λ w n tape. by_step code old w n tape st is;
        falls = λ plans steps sound here.
            let near = leads_at code plans old steps st sound here is 0 in
            (near.0, near.2, near.1);
        stacked = λ place stacked. stacked;
        leaves = tt;
      })

  -- a byte is taken
  pub makes_in : (s : State) → IsBefore code ops.In line s → Makes code s (events.In line) (moved (topped 0 s))
  makes_in (Begin function arguments at) before = absurd before
  makes_in (At a callers at stack) before =
      let old = At a callers at stack in
      let st = Requests a.mode In line types.ULongLong (At a callers (at + 1) stack) in
      let is : step_of code old ≡ st = step_here code before.0 a callers at line ops.In stack before.1 before.2 in
      record {
        does = λ w n tape. by_step code old w n tape st is;
        falls = λ plans steps sound here.
            let near = leads_at code plans old steps st sound here is 0 in
            (near.0, near.2, near.1);
        stacked = λ place stacked. stacked;
        leaves = tt;
      }

  -- bytes of the heap are taken
  pub makes_malloc : (s : State) (cell : ℕ) (rest : List ℕ) → IsBefore code ops.Malloc line s → stack_of s ≡ cell ∷ rest → Makes code s (events.Malloc (address_of cell) line) (moved s)
  makes_malloc (Begin function arguments at) cell rest before top = absurd before
  makes_malloc (At a callers at stack) cell rest before top =
      let old = At a callers at (cell ∷ rest) in
      let st = Requests a.mode (Malloc (address_of cell)) line types.ULongLong (At a callers (at + 1) rest) in
      let is : step_of code old ≡ st = step_here code before.0 a callers at line ops.Malloc (cell ∷ rest) before.1 before.2 in
      rw top (record {
        does = λ w n tape. by_step code old w n tape st is;
        falls = λ plans steps sound here.
            let near = leads_at code plans old steps st sound here is 0 in
            (near.0, near.2, near.1);
        stacked = λ place stacked. stacked;
        leaves = tt;
      })

  -- ---- marks

  pub makes_start : (s : State) → IsBefore code (ops.Mark isa_marks.Start) line s → Makes code s (events.Mark marks.Start line) (moved s)
  makes_start (Begin function arguments at) before = absurd before
  makes_start (At a callers at stack) before =
      let old = At a callers at stack in
      let st = Notifies a.mode Start line (At a callers (at + 1) stack) in
      let is : step_of code old ≡ st = step_here code before.0 a callers at line (ops.Mark isa_marks.Start) stack before.1 before.2 in
      record {
        does = λ w n tape. by_step code old w n tape st is;
        falls = λ plans steps sound here.
            let near = leads_at code plans old steps st sound here is in
            (near.0, near.2, near.1);
        stacked = λ place stacked. stacked;
        leaves = tt;
      }

  pub makes_finish : (s : State) → IsBefore code (ops.Mark isa_marks.Finish) line s → Makes code s (events.Mark marks.Finish line) (moved s)
  makes_finish (Begin function arguments at) before = absurd before
  makes_finish (At a callers at stack) before =
      let old = At a callers at stack in
      let st = Notifies a.mode Finish line (At a callers (at + 1) stack) in
      let is : step_of code old ≡ st = step_here code before.0 a callers at line (ops.Mark isa_marks.Finish) stack before.1 before.2 in
      record {
        does = λ w n tape. by_step code old w n tape st is;
        falls = λ plans steps sound here.
            let near = leads_at code plans old steps st sound here is in
            (near.0, near.2, near.1);
        stacked = λ place stacked. stacked;
        leaves = tt;
      }

  pub makes_barrier : (s : State) → IsBefore code (ops.Mark isa_marks.Barrier) line s → Makes code s (events.Mark marks.Barrier line) (moved s)
  makes_barrier (Begin function arguments at) before = absurd before
  makes_barrier (At a callers at stack) before =
      let old = At a callers at stack in
      let st = Notifies a.mode Barrier line (At a callers (at + 1) stack) in
      let is : step_of code old ≡ st = step_here code before.0 a callers at line (ops.Mark isa_marks.Barrier) stack before.1 before.2 in
      record {
        does = λ w n tape. by_step code old w n tape st is;
        falls = λ plans steps sound here.
            let near = leads_at code plans old steps st sound here is in
            (near.0, near.2, near.1);
        stacked = λ place stacked. stacked;
        leaves = tt;
      }

  pub makes_wait : (s : State) (cell : ℕ) (rest : List ℕ) → IsBefore code (ops.Mark isa_marks.Wait) line s → stack_of s ≡ cell ∷ rest → Makes code s (events.Mark (marks.Wait (address_of cell)) line) (moved (dropped 1 s))
  makes_wait (Begin function arguments at) cell rest before top = absurd before
  makes_wait (At a callers at stack) cell rest before top =
      let old = At a callers at (cell ∷ rest) in
      let st = Notifies a.mode (Wait (address_of cell)) line (At a callers (at + 1) rest) in
      let is : step_of code old ≡ st = step_here code before.0 a callers at line (ops.Mark isa_marks.Wait) (cell ∷ rest) before.1 before.2 in
      rw top (record {
        does = λ w n tape. by_step code old w n tape st is;
        falls = λ plans steps sound here.
            let near = leads_at code plans old steps st sound here is in
            (near.0, near.2, near.1);
        stacked = λ place stacked. stacked;
        leaves = tt;
      })

  -- the one cell or the other
  tested : (b : Bool) (w : World) (n : ℕ) (a : Activation) (callers : List Caller) (place : ℕ) (stack : List ℕ) (tape : Tape)
      → (if b then exec w code n (At a callers place (1 ∷ stack)) tape else exec w code n (At a callers place (0 ∷ stack)) tape) ≡ exec w code n (At a callers place (truth b ∷ stack)) tape
  tested true w n a callers place stack tape = refl
  tested false w n a callers place stack tape = refl

  pub makes_test : (s : State) → IsBefore code (ops.Mark isa_marks.Started) line s → Makes code s (events.Mark marks.Started line) (moved (topped 0 s))
  makes_test (Begin function arguments at) before = absurd before
  makes_test (At a callers at stack) before =
      let old = At a callers at stack in
      let st = Tests (At a callers (at + 1) (1 ∷ stack)) (At a callers (at + 1) (0 ∷ stack)) in
      let is : step_of code old ≡ st = step_here code before.0 a callers at line (ops.Mark isa_marks.Started) stack before.1 before.2 in
      record {
        does = λ w n tape. by_step code old w n tape st is ∙ tested (makes_tasks tape) w n a callers (at + 1) stack tape;
        falls = λ plans steps sound here.
            let near = leads_at code plans old steps st sound here is in
            (near.1.0, near.1.2, near.1.1);
        stacked = λ place stacked. stacked;
        leaves = tt;
      }

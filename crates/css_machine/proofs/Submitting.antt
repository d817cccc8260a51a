-- Calls of tasks as events.
use Rattle.std.proofs.Common.{◌≡◌, ℕ, zero, suc, ◌+◌, ◌*◌, ◌/◌, ◌%◌, ◌^◌, ◌<◌, ◌≤◌, true, List, [], ◌∷◌, ◌++◌, length, take, drop, reverse, Some, slice_get, nat_le, refl, sym, ap, ap₂, ◌∙◌, arith, le-leb, pow_pos, mod-lt, mod-eq_of_lt}
use Rattle.std.proofs.lemmas.Nat.{mod-pow-add}
use Rattle.std.proofs.lemmas.List.{length-drop, length-reverse, length-take-le}
use Rattle.css_semantics.specs.Dialogue.{Store, Calls, Enter, Tape, World, Call, Outcome, Goes, Stops, then_do, ask}
use Rattle.css_semantics.specs.Memory.{big_endian_bytes}
use Rattle.css_isa.specs.declared.code.Op.TheVariants as ops
use Rattle.css_isa.specs.Code.{Routine, Shape, Code, all_dimensions, scalars_of, pointers_of, narrowed_to, call_of}
use Rattle.css_isa.specs.Steps.{Activation, Caller, State, Begin, At, Step, Submits, Halt, submitting, step_of, stores, entered, inside, waiting, behind_call}
use Rattle.css_isa.specs.Machine.{exec}
use Rattle.css_isa.specs.Soundness.{Fits, arguments_taken, dimensions_taken, dimensions_of_task}
use Rattle.css_machine.specs.declared.event.Submitted.{Submitted}
use Rattle.css_machine.specs.declared.event.Event.TheVariants as events
use Rattle.css_machine.specs.Events.{waiting_in, submit_behind, IsWhole}
use Rattle.css_machine.specs.States.{stack_of, dropped, Submits as Given}
use Rattle.css_machine.specs.Steps.{IsBefore, Makes}
use Rattle.css_machine.proofs.Inside.{by_step, leads_at}
use Rattle.css_machine.proofs.Made.{step_here, finds_before}

-- ---- narrowed arguments

-- narrowed arguments are as narrow as they get
narrowed_twice : (parameters arguments : List ℕ) → narrowed_to parameters (narrowed_to parameters arguments) ≡ narrowed_to parameters arguments
narrowed_twice [] arguments = refl
narrowed_twice (width ∷ parameters) [] = refl
narrowed_twice (width ∷ parameters) (a ∷ arguments) =
    let some : 0 < 2 ^ (8 * width) = pow_pos (8 * width) in
    let narrow : a % 2 ^ (8 * width) % 2 ^ (8 * width) ≡ a % 2 ^ (8 * width) = mod-eq_of_lt (mod-lt a some) in
    ap₂ (λ x xs. x ∷ xs) narrow (narrowed_twice parameters arguments)

-- an argument for each parameter stays one
narrowed_length : (parameters arguments : List ℕ) → length arguments ≡ length parameters → length (narrowed_to parameters arguments) ≡ length parameters
narrowed_length [] arguments same = refl
narrowed_length (width ∷ parameters) [] same = absurd (omega arith)
narrowed_length (width ∷ parameters) (a ∷ arguments) same = ap suc (narrowed_length parameters arguments (omega arith))

same_call : (k : ℕ) (g : Routine) (shape : Shape) (arguments dimensions : List ℕ) (base : ℕ) → call_of k g shape arguments dimensions base ≡ call_of k g shape (narrowed_to g.parameters arguments) dimensions base
same_call k g shape arguments dimensions base =
    ap (λ values. let call : Call = record { function = k; scalars = scalars_of shape.arguments values; arguments = pointers_of shape.arguments values dimensions; stack_place = base; is_high = shape.high } in call)
    (sym (narrowed_twice g.parameters arguments))

-- what goes on alike behind an outcome
then_same : {A B : Type 0} (o : Outcome A) (f g : A → Tape → Outcome B) → ((a : A) (t : Tape) → f a t ≡ g a t) → then_do o f ≡ then_do o g
then_same (Goes a t) f g same = same a t
then_same (Stops why t) f g same = refl

-- a number's low bytes are those of a narrowed one
low_bytes : (width n : ℕ) → big_endian_bytes width (n % 2 ^ (8 * width)) ≡ big_endian_bytes width n
low_bytes zero n = refl
low_bytes (suc width) n =
    let rest = n / 256 % 2 ^ (8 * width) in
    let m = n % 2 ^ (8 * suc width) in
    let bits : 8 * suc width ≡ 8 * width + 8 = omega arith in
    let parts : m ≡ rest * 256 + n % 256 = ap (λ k. n % 2 ^ k) bits ∙ mod-pow-add n (8 * width) 8 in
    let high : m / 256 ≡ rest = omega arith in
    let low : m % 256 ≡ n % 256 = omega arith in
    ap (λ h. big_endian_bytes width h ++ m % 256 ∷ []) high ∙ ap (λ byte. big_endian_bytes width rest ++ byte ∷ []) low
    ∙ ap (λ bytes. bytes ++ n % 256 ∷ []) (low_bytes width (n / 256))

same_stores : (w : World) (address : ℕ) (parameters arguments : List ℕ) (line : ℕ) (tape : Tape) → stores w address parameters arguments line tape ≡ stores w address parameters (narrowed_to parameters arguments) line tape
same_stores w address [] arguments line tape = refl
same_stores w address (width ∷ parameters) [] line tape = refl
same_stores w address (width ∷ parameters) (a ∷ arguments) line tape =
    rw (low_bytes width a)
    (then_same (ask w (Store (address % 2 ^ 32) (big_endian_bytes width a)) line tape) (λ r t. stores w (address + 8) parameters arguments line t) (λ r t. stores w (address + 8) parameters (narrowed_to parameters arguments) line t)
    (λ r t. same_stores w (address + 8) parameters arguments line t))

same_entered : (w : World) (g : Routine) (arguments : List ℕ) (line : ℕ) (tape : Tape) → entered w g arguments line tape ≡ entered w g (narrowed_to g.parameters arguments) line tape
same_entered w g arguments line tape =
    then_same (ask w (Enter g.frame) line tape) (λ base t. then_do (stores w base g.parameters arguments line t) (λ r t'. Goes base t')) (λ base t. then_do (stores w base g.parameters (narrowed_to g.parameters arguments) line t) (λ r t'. Goes base t'))
    (λ base t. ap (λ o. then_do o (λ r t'. Goes base t')) (same_stores w base g.parameters arguments line t))

-- a task's call goes on alike with narrowed arguments
same_behind : (w : World) (on : State → Tape → Outcome Halt) (ends : Halt → Tape → Outcome Halt) (reply k : ℕ) (g : Routine) (arguments : List ℕ) (line : ℕ) (callers : List Caller) (next : State) (tape : Tape)
    → behind_call w on ends reply k g arguments line callers next tape ≡ behind_call w on ends reply k g (narrowed_to g.parameters arguments) line callers next tape
same_behind w on ends zero k g arguments line callers next tape = refl
same_behind w on ends (suc reply) k g arguments line callers next tape = ap (λ o. then_do o (λ base t. on (inside k true callers base) t)) (same_entered w g arguments line tape)

-- ---- the event

-- a task's dimensions and arguments are on the stack
pub submit_finds : (code : Code) (k line : ℕ) (s : State) (g : Routine) (shape : Shape) → Fits code s → IsBefore code (ops.Submit k) line s → slice_get code.functions k ≡ Some g → g.task ≡ Some shape → all_dimensions shape.arguments + length g.parameters ≤ length (stack_of s)
submit_finds code k line s g shape fits before there is_task =
    let finds = (finds_before code (ops.Submit k) line s fits before).0 in
    let arguments : arguments_taken (slice_get code.functions k) ≡ length g.parameters = ap arguments_taken there in
    let dimensions : dimensions_taken (slice_get code.functions k) ≡ all_dimensions shape.arguments = ap dimensions_taken there ∙ ap dimensions_of_task is_task in
    omega (arith, finds, arguments, dimensions)

module _ (code : Code) (line : ℕ) (a : Activation) (callers : List Caller) (at k : ℕ) (g : Routine) (shape : Shape) (stack : List ℕ) (there : slice_get code.functions k ≡ Some g) (is_task : g.task ≡ Some shape) (enough : all_dimensions shape.arguments + length g.parameters ≤ length stack) where
  abbrev below : List ℕ
  below = drop (all_dimensions shape.arguments) stack

  abbrev dimensions : List ℕ
  dimensions = reverse (take (all_dimensions shape.arguments) stack)

  abbrev arguments : List ℕ
  arguments = reverse (take (length g.parameters) below)

  abbrev rest : List ℕ
  rest = drop (length g.parameters) below

  abbrev submits : Step
  submits = Submits (call_of k g shape arguments dimensions a.base) k g arguments line (waiting code a callers line at rest ∷ callers) (At a callers (at + 1) (0 ∷ rest))

  submit_step : submitting code a callers line at k stack ≡ submits
  submit_step =
      let first : all_dimensions shape.arguments ≤ length stack = omega arith in
      let second : length g.parameters ≤ length below = omega (arith, length-drop (all_dimensions shape.arguments) stack) in
      let le : nat_le (all_dimensions shape.arguments) (length stack) ≡ true = le-leb _ _ first in
      let le' : nat_le (length g.parameters) (length below) ≡ true = le-leb _ _ second in
      rw (there, is_task, le, le') refl

  submit_whole : (call : Submitted) → call.function ≡ k → call.arguments.items ≡ narrowed_to g.parameters arguments → call.dims.items ≡ dimensions → IsWhole code call
  submit_whole call named passed given =
      let first : all_dimensions shape.arguments ≤ length stack = omega arith in
      let second : length g.parameters ≤ length below = omega (arith, length-drop (all_dimensions shape.arguments) stack) in
      let count : length arguments ≡ length g.parameters = length-reverse (take (length g.parameters) below) ∙ length-take-le (length g.parameters) below second in
      record {
        function = g;
        shape = shape;
        is_there = rw named there;
        is_task = is_task;
        arguments = rw passed (narrowed_length g.parameters arguments count);
        narrowed = rw passed (narrowed_twice g.parameters arguments);
        dimensions = rw given (length-reverse (take (all_dimensions shape.arguments) stack) ∙ length-take-le (all_dimensions shape.arguments) stack first);
      }

  submit_done : (w : World) (n : ℕ) (tape : Tape) → then_do (ask w (Calls (call_of k g shape arguments dimensions a.base)) line tape) (λ r t. behind_call w (exec w code n) Goes r k g arguments line (waiting code a callers line at rest ∷ callers) (At a callers (at + 1) (0 ∷ rest)) t)
      ≡ then_do (ask w (Calls (call_of k g shape (narrowed_to g.parameters arguments) dimensions a.base)) line tape) (λ r t. behind_call w (exec w code n) Goes r k g (narrowed_to g.parameters arguments) line (waiting_in (At a callers (at + 1) (0 ∷ rest))) (At a callers (at + 1) (0 ∷ rest)) t)
  submit_done w n tape =
      let next = At a callers (at + 1) (0 ∷ rest) in
      then_same (ask w (Calls (call_of k g shape arguments dimensions a.base)) line tape)
      (λ r t. behind_call w (exec w code n) Goes r k g arguments line (waiting code a callers line at rest ∷ callers) next t)
      (λ r t. behind_call w (exec w code n) Goes r k g (narrowed_to g.parameters arguments) line (waiting_in next) next t)
      (λ r t. same_behind w (exec w code n) Goes r k g arguments line (waiting_in next) next t)
      ∙ ap (λ call. then_do (ask w (Calls call) line tape) (λ r t. behind_call w (exec w code n) Goes r k g (narrowed_to g.parameters arguments) line (waiting_in next) next t)) (same_call k g shape arguments dimensions a.base)

  -- what comes of the event
  submit_found : (call : Submitted) → call.function ≡ k → call.arguments.items ≡ narrowed_to g.parameters arguments → call.dims.items ≡ dimensions → call.line ≡ line → (w : World) (n : ℕ) (tape : Tape)
      → then_do (ask w (Calls (call_of k g shape (narrowed_to g.parameters arguments) dimensions a.base)) line tape) (λ r t. behind_call w (exec w code n) Goes r k g (narrowed_to g.parameters arguments) line (waiting_in (At a callers (at + 1) (0 ∷ rest))) (At a callers (at + 1) (0 ∷ rest)) t)
      ≡ submit_behind w code n call (slice_get code.functions call.function) (At a callers (at + 1) (0 ∷ rest)) tape
  submit_found call named passed given lined w n tape =
      rw (named, there, is_task, passed, given, lined) refl

pub makes_submit : (code : Code) (line : ℕ) (s : State) (call : Submitted) (new : State) → IsBefore code (ops.Submit call.function) line s → Given code s line call new → Makes code s (events.Submit call) new
makes_submit code line (Begin function arguments at) call new before given = absurd before
makes_submit code line (At a callers at stack) call new before given =
    let g = given.function in
    let shape = given.shape in
    let k = call.function in
    let old = At a callers at stack in
    let st = submits code line a callers at k g shape stack given.is_there given.is_task given.cells in
    let is : step_of code old ≡ st = step_here code before.0 a callers at line (ops.Submit k) stack before.1 before.2 ∙ submit_step code line a callers at k g shape stack given.is_there given.is_task given.cells in
    rw given.new_is (record {
      does = λ w n tape.
          by_step code old w n tape st is
          ∙ submit_done code line a callers at k g shape stack given.is_there given.is_task given.cells w n tape
          ∙ submit_found code line a callers at k g shape stack given.is_there given.is_task given.cells call refl given.arguments given.dimensions given.line_is w n tape;
      falls = λ plans steps sound here.
          let near = (leads_at code plans old steps st sound here is).1 in
          (near.0, near.2, near.1);
      stacked = λ place stacked. stacked;
      leaves = (tt, submit_whole code line a callers at k g shape stack given.is_there given.is_task given.cells call refl given.arguments given.dimensions);
    })

-- the stack without its topmost cells
pub stack_dropped : (count : ℕ) (s : State) → stack_of (dropped count s) ≡ drop count (stack_of s)
stack_dropped zero (Begin function given line) = refl
stack_dropped (suc count) (Begin function given line) = refl
stack_dropped count (At a callers place stack) = refl

-- the arguments are there below the dimensions
pub arguments_there : (code : Code) (k line : ℕ) (s : State) (g : Routine) (shape : Shape) (count : ℕ) → Fits code s → IsBefore code (ops.Submit k) line s → slice_get code.functions k ≡ Some g → g.task ≡ Some shape → count ≡ all_dimensions shape.arguments → length g.parameters ≤ length (stack_of (dropped count s))
arguments_there code k line s g shape count fits before there is_task is =
    let enough = submit_finds code k line s g shape fits before there is_task in
    omega (arith, ap length (stack_dropped count s), length-drop count (stack_of s))

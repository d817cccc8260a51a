-- Worked constructs, each beside its dialogue written by hand.
use Rattle.std.specs.Prelude.{ℕ, zero, suc, ◌%◌, ◌^◌, pos, false, List, [], ◌∷◌, Some, None, nat_eq, if◌then◌else◌}
use Rattle.css_base.specs.declared.direction.Direction.TheVariants as directions
use Rattle.css_base.specs.declared.int_type.IntType.TheVariants as types
use Rattle.css_base.specs.declared.ending.FaultKind.TheVariants.{DivideByZero}
use Rattle.css_semantics.specs.Dialogue.{Enter, Leave, Turn, In, Out, Load, Store, DimFault, World, Tape, Outcome, Goes, Stops, Tired, then_do, Measuring, item_in, at_fault, ask}
use Rattle.css_semantics.specs.Memory.{big_endian_bytes}
use Rattle.css_isa.specs.declared.code.ArgShape.TheVariants as shapes
use Rattle.css_isa.specs.declared.code.Op.TheVariants as ops
use Rattle.css_isa.specs.declared.code.Mark.TheVariants as marks
use Rattle.css_isa.specs.declared.code.Conversion.TheVariants as conversions
use Rattle.css_isa.specs.Cells.{cell_as, sum_of, address_of}
use Rattle.css_isa.specs.Steps.{Halt, Finished}
use Rattle.css_semantics.specs.Tasks.{makes_tasks}
use Rattle.css_blocks.specs.declared.part.Way.TheVariants.{Breaks, Continues}
use Rattle.css_blocks.specs.Pieces as pieces
use Rattle.css_blocks.specs.Pieces.{Piece, Do, Choice, When, Exit, Invoke, Submit, row, while_loop}
use Rattle.css_blocks.specs.Layout.{Function, Program}

-- a function without parameters, whose calls are no tasks, and a program of functions without globals
abbrev plain : (frame : ℕ) → List Piece → (end : ℕ) → Function
plain frame ps end = record { name = []; frame = frame; parameters = []; task = None; body = row ps; end = end }

abbrev program : List Function → Program
program fs = record { globals_end = 4096; datums = []; functions = fs; main = 0 }

-- a byte of the input as a cell
abbrev byte_cell : ℕ → ℕ
byte_cell r = cell_as types.ULongLong r

-- where fuel is left
abbrev within : {A : Type 0} → ℕ → (Tape → Outcome A) → Tape → Outcome A
within zero go tape = Stops Tired tape
within (suc n) go tape = go tape

-- ---- a choice: `if (getchar()) return 1; else return 2;`

abbrev pub choosing : Program
choosing = program (plain 8 (Do 2 ops.In ∷ Choice 2 (row (Do 3 (ops.Push (pos 1)) ∷ pieces.Leave 3 ∷ [])) (row (Do 4 (ops.Push (pos 2)) ∷ pieces.Leave 4 ∷ [])) ∷ []) 5 ∷ [])

abbrev pub choosing_by_hand : World → (line : ℕ) → Tape → ℕ → Outcome Halt
choosing_by_hand w line tape n =
    then_do (ask w (Enter 8) line tape) (λ base t. then_do (ask w In 2 t) (λ r t'.
    if nat_eq (byte_cell r) 0 then Goes (Finished 2 base 4) t' else Goes (Finished 1 base 3) t'))

-- ---- a loop with both ways out, and a step:
-- `for (; getchar(); putchar('A')) { if (getchar()) continue; if (getchar()) break; }`

abbrev pub looping_body : Piece
looping_body = row (Do 3 ops.In ∷ When 3 (Exit 3 Continues) ∷ Do 4 ops.In ∷ When 4 (Exit 4 Breaks) ∷ [])

abbrev pub looping_step : Piece
looping_step = row (Do 2 (ops.Push (pos 65)) ∷ Do 2 (ops.Out conversions.Char) ∷ Do 2 ops.Drop ∷ [])

abbrev pub looping_function : Function
looping_function = plain 0 (while_loop 2 (row (Do 2 ops.In ∷ [])) looping_body looping_step ∷ []) 6

abbrev pub looping : Program
looping = program (looping_function ∷ [])

abbrev pub tested_by_hand : World → (Tape → Outcome ℕ) → Tape → Outcome ℕ
tested_by_hand w go tape = then_do (ask w In 2 tape) (λ r t. if nat_eq (byte_cell r) 0 then Goes 0 t else go t)

abbrev pub turns_by_hand : World → ℕ → Tape → Outcome ℕ
turns_by_hand w zero tape = Stops Tired tape
turns_by_hand w (suc n) tape =
    let again : Tape → Outcome ℕ = λ t. then_do (ask w (Out (65 ∷ [])) 2 t) (λ r t'. tested_by_hand w (turns_by_hand w n) t') in
    then_do (ask w Turn 2 tape) (λ r t2. then_do (ask w In 3 t2) (λ r t3.
    if nat_eq (byte_cell r) 0 then then_do (ask w In 4 t3) (λ r t4. if nat_eq (byte_cell r) 0 then again t4 else Goes 0 t4) else again t3))

abbrev pub looping_by_hand : World → (line : ℕ) → Tape → ℕ → Outcome Halt
looping_by_hand w line tape n =
    then_do (ask w (Enter 0) line tape) (λ base t. then_do (tested_by_hand w (turns_by_hand w n) t) (λ r t'. Goes (Finished 0 base 6) t'))

-- ---- a call: `return next(getchar());`, where `int next(int a) { return a + 1; }`

abbrev pub next : Function
next = record {
  name = [];
  frame = 8;
  parameters = 4 ∷ [];
  task = None;
  body = row (Do 7 (ops.Frame 0) ∷ Do 7 ops.Load32s ∷ Do 7 (ops.Push (pos 1)) ∷ Do 7 ops.Add ∷ pieces.Leave 7 ∷ []);
  end = 8;
}

abbrev pub calling : Program
calling = program (plain 0 (Do 2 ops.In ∷ Invoke 2 1 1 ∷ pieces.Leave 2 ∷ []) 3 ∷ next ∷ [])

abbrev pub calling_by_hand : World → (line : ℕ) → Tape → ℕ → Outcome Halt
calling_by_hand w line tape n =
    then_do (ask w (Enter 0) line tape) (λ base t. then_do (ask w In 2 t) (λ r. within n (λ t'.
    then_do (ask w (Enter 8) 2 t') (λ inner t1.
    then_do (ask w (Store (inner % 2 ^ 32) (big_endian_bytes 4 (byte_cell r))) 2 t1) (λ e t2.
    then_do (ask w (Load (address_of (sum_of inner 0)) 4) 7 t2) (λ v t3.
    then_do (ask w (Leave inner 8) 7 t3) (λ e' t4. Goes (Finished (sum_of (cell_as types.Int v) 1) base 2) t4)))))))

-- ---- a task's call whose dimension is at fault: `f(p)`, where f has a window of `1 / 0` elements of 4 bytes

abbrev pub task : Function
task = record {
  name = [];
  frame = 8;
  parameters = 4 ∷ [];
  task = Some (record { high = false; arguments = shapes.Window directions.In 4 1 false ∷ [] });
  body = row [];
  end = 9;
}

abbrev pub submitting : Program
submitting = program (plain 0 (Do 2 (ops.Push (pos 4096)) ∷ Do 2 (ops.Mark marks.Started) ∷ Choice 2
    (row (Do 2 (ops.Mark marks.InDimension) ∷ Do 2 (ops.Push (pos 1)) ∷ Do 2 (ops.Push (pos 0)) ∷ Do 2 ops.Divs ∷ Do 2 (ops.Mark marks.Outside) ∷ Submit 2 1 1 1 ∷ []))
    (row (Invoke 2 1 1 ∷ [])) ∷ pieces.Leave 2 ∷ []) 3 ∷ task ∷ [])

-- where calls make tasks the fault is asked aside, and the dialogue stops behind it; elsewhere it is a plain call
abbrev pub submitting_by_hand : World → (line : ℕ) → Tape → ℕ → Outcome Halt
submitting_by_hand w line tape n =
    then_do (ask w (Enter 0) line tape) (λ base t.
    if makes_tasks t then
    (let i = item_in (Measuring []) DimFault 2 in at_fault (w t i) DivideByZero i t)
    else within n (λ t'.
    then_do (ask w (Enter 8) 2 t') (λ inner t1.
    then_do (ask w (Store (inner % 2 ^ 32) (big_endian_bytes 4 4096)) 2 t1) (λ e t2.
    then_do (ask w (Leave inner 8) 9 t2) (λ e' t3. Goes (Finished 0 base 2) t3)))) t)

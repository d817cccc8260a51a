-- A run of main in the flat memory, on its way.
use Rattle.std.specs.Prelude.{◌≡◌, ◌≤◌, ℕ, ℤ, List, ◌++◌, false, Option, Some, slice_get}
use Rattle.css_base.specs.declared.ending.Ending.{Ending}
use Rattle.css_base.specs.declared.ending.Ending.TheVariants as endings
use Rattle.css_base.specs.declared.ending.FaultKind.TheVariants.{OutsideMemory}
use Rattle.css_base.specs.declared.ending.Stop.TheVariants as stops
use Rattle.css_base.specs.declared.ending.Who.TheVariants.{Main}
use Rattle.css_semantics.specs.Dialogue.{Tape, Leave, Reply, Says, Fails, Refuses, Outcome, Goes, Stops, tape_of, output, then_do}
use Rattle.css_semantics.specs.Worlds.{state_after}
use Rattle.css_semantics.specs.Memory.{Memory, stack_place, after}
use Rattle.css_semantics.specs.Tasks.{is_started}
use Rattle.css_semantics.specs.Units.{Metered, with_units, spending}
use Rattle.css_semantics.specs.Flat.{FlatState, flat, memory_reply}
use Rattle.css_vm.specs.Cells.{int_of}
use Rattle.css_vm.specs.Code.{Code}
use Rattle.css_vm.specs.Machine.{State, Halt, frame_of, exec, main_ends, target}
use Rattle.css_driver.specs.Answer.{ending_of}
use Rattle.css_io.specs.Changes.{Change, Got}
use Rattle.css_main_side.specs.declared.ran.Ran.{Ran}
use Rattle.css_main_side.specs.Ran.{RanAs}

-- a program's outcome as its code's
abbrev pub halted : Outcome ℤ → Outcome (Option ℤ)
halted (Goes v tape) = Goes (Some v) tape
halted (Stops why tape) = Stops why tape

-- The dialogue of the code in the flat memory, with so many units, comes to this outcome.
abbrev pub ComesTo : (start : FlatState) → (units : ℕ) → Code → Outcome ℤ → Type 0
ComesTo start units code o = (n : ℕ) × (target (flat start units) code n ≡ halted o)

-- the bytes of main's frame
abbrev pub main_frame : Code → ℕ
main_frame code = frame_of (slice_get code.functions code.main)

-- The run from a state, with a space and with units left, comes to this outcome, after what the tape so far has written and without
-- tasks.
pub record Running (start : FlatState) (units : ℕ) (code : Code) (o : Outcome ℤ) (state : State) (space : Metered Memory) (written : List ℕ) : Type 0 where
  pub steps : ℕ
  pub so_far : Tape
  pub goes : then_do (exec (flat start units) code steps state so_far) (main_ends (flat start units) (main_frame code)) ≡ halted o
  pub space_is : state_after (spending after) (with_units start.memory units) so_far ≡ space
  pub written_is : output so_far ≡ written
  pub no_tasks : is_started so_far ≡ false

-- A part of the run: the sink got some bytes, and wherever the run was on its way to an ending it still is. The count of faults
-- doesn't fall.
pub record GoesOn (code : Code) (old : State) (space : Metered Memory) (new : State) (space' : Metered Memory) (pending pending' : List ℕ) (c : Change) : Type 0 where
  pub front : List ℕ
  pub got : Got c front
  pub running : (start : FlatState) (units : ℕ) (o : Outcome ℤ) (ending : Ending) (written : List ℕ) → ending_of o ≡ Some ending
      → Running start units code o old space (written ++ pending) → Running start units code o new space' (written ++ front ++ pending')
  pub never_fell : c.faults_before ≤ c.faults_after

-- The last part: of the output that is left, all with the ending, or a prefix.
abbrev pub EndsRun : Code → State → Metered Memory → List ℕ → Change → Ran → Type 0
EndsRun code old space pending c ran = (start : FlatState) (units : ℕ) (o : Outcome ℤ) (ending : Ending) (written : List ℕ) → ending_of o ≡ Some ending
    → Running start units code o old space (written ++ pending)
    → (rest : List ℕ) × (output (tape_of o) ≡ written ++ rest) × RanAs ending rest c ran

-- How main ends with a cell in a line, by the reply as it leaves its frame.
abbrev pub left_with : Reply → (cell line : ℕ) → Ending
left_with (Says r) cell line = endings.Result (int_of cell)
left_with Fails cell line = endings.Stopped (stops.Fault OutsideMemory) line Main
left_with (Refuses rule) cell line = endings.Stopped (stops.Rule rule) line Main

-- the reply as main leaves its frame, which is the innermost
abbrev pub reply_to_leaving : Code → Memory → Reply
reply_to_leaving code m = memory_reply m (Leave (stack_place m) (main_frame code))

-- Small codes without globals, all in one line of the text.
use Rattle.std.specs.Prelude.{◌≡◌, ℕ, Bool, true, false, List, [], ◌∷◌, map, Option}
use Rattle.css_isa.specs.declared.code.Op.{Op}
use Rattle.css_isa.specs.declared.code.Instr.{Instr}
use Rattle.css_isa.specs.Code.{Routine, Shape, Code}
use Rattle.css_isa.specs.Soundness.{Fits}
use Rattle.css_machine.specs.declared.event.Event.{Event}
use Rattle.css_machine.specs.declared.event.Event.TheVariants as events
use Rattle.css_machine.specs.declared.machine.Due.TheVariants as due
use Rattle.css_machine.specs.Due.{Machine}
use Rattle.css_machine.specs.Events.{IsStacked}

-- an instruction in a line
abbrev pub at_line : (line : ℕ) → Op → Instr
at_line line op = record { op = op; line = line }

-- a function of these instructions
abbrev pub routine_of : (frame : ℕ) → (parameters : List ℕ) → Option Shape → (line : ℕ) → List Op → Routine
routine_of frame parameters task line ops = record { name = 102 ∷ []; frame = frame; parameters = parameters; task = task; body = map (at_line line) ops }

-- functions of which the first is main
abbrev pub code_with : List Routine → Code
code_with functions = record { globals_end = 4096; datums = []; functions = functions; main = 0 }

-- an event behind which the machine goes on
abbrev pub goes_on : Event → Bool
goes_on (events.Ended value line) = false
goes_on (events.Stopped stop mode line) = false
goes_on e = true

-- a machine that may be run
pub record IsReady (code : Code) (place : ℕ) (m : Machine) : Type 0 where
  pub due : m.due ≡ due.Run
  pub fits : Fits code m.state
  pub stacked : IsStacked code place m.state

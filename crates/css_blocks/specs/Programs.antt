-- The dialogue of a program of pieces.
use Rattle.std.specs.Prelude.{ℕ, ℤ, zero, suc, Bool, true, false, List, [], Option, Some, None, slice_get}
use Rattle.css_semantics.specs.Dialogue as dialogue
use Rattle.css_semantics.specs.Dialogue.{Tape, World, Outcome, Goes, Stops, Tired, then_do, Plain, ask}
use Rattle.css_isa.specs.Code.{Shape, call_of}
use Rattle.css_isa.specs.Steps.{Halt, Finished, Stuck, entered, left, given_back}
use Rattle.css_isa.specs.Machine.{frame_of, entry_line, main_ends, body_ends}
use Rattle.css_blocks.specs.Meaning.{Exits, Falls, Jumps, Returns, Sticks, Calls, means}
use Rattle.css_blocks.specs.Layout.{Function, Program, routine_of, code_of}

-- behind a function's piece, with the frame at a base: in this line 0 is returned
abbrev pub returned : (end base : ℕ) → Exits → Halt
returned end base (Falls mode stack) = Finished 0 base end
returned end base (Jumps way mode stack) = Finished 0 base end
returned end base (Returns cell line) = Finished cell base line
returned end base Sticks = Stuck

-- a function from its entry on, up to where it would leave its frame
abbrev pub applied : World → Calls → ℕ → Function → (arguments : List ℕ) → (line : ℕ) → Tape → Outcome Halt
applied w calls n f arguments line tape =
    then_do (entered w (routine_of f) arguments line tape) (λ base tape'.
    then_do (means w calls n base f.body Plain [] tape') (λ e tape''. Goes (returned f.end base e) tape''))

-- it leaves its frame, called as a task or not, and gives a cell
abbrev pub gone : World → (frame : ℕ) → (is_task : Bool) → Halt → Tape → Outcome (Option ℕ)
gone w frame is_task (Finished cell base line) tape =
    then_do (left w base frame is_task line tape) (λ r tape'. Goes (Some (given_back is_task cell)) tape')
gone w frame is_task Stuck tape = Goes None tape

abbrev pub called : World → Calls → ℕ → Option Function → (arguments : List ℕ) → (line : ℕ) → Tape → Outcome (Option ℕ)
called w calls n None arguments line tape = Goes None tape
called w calls n (Some f) arguments line tape = then_do (applied w calls n f arguments line tape) (gone w f.frame false)

-- behind a task's call, by the world's reply: it returns at once, or its body is run
abbrev pub behind_call : World → Calls → ℕ → Function → (arguments : List ℕ) → (line : ℕ) → (reply : ℕ) → Tape → Outcome (Option ℕ)
behind_call w calls n f arguments line zero tape = then_do (ask w dialogue.Returns line tape) (λ r tape'. Goes (Some 0) tape')
behind_call w calls n f arguments line (suc reply) tape = then_do (applied w calls n f arguments line tape) (gone w f.frame true)

abbrev pub submitted_as : World → Calls → ℕ → (number : ℕ) → Function → Option Shape → (arguments dimensions : List ℕ) → (base line : ℕ) → Tape → Outcome (Option ℕ)
submitted_as w calls n number f None arguments dimensions base line tape = Goes None tape
submitted_as w calls n number f (Some s) arguments dimensions base line tape =
    then_do (ask w (dialogue.Calls (call_of number (routine_of f) s arguments dimensions base)) line tape) (behind_call w calls n f arguments line)

abbrev pub submitted : World → Calls → ℕ → (number : ℕ) → Option Function → (arguments dimensions : List ℕ) → (base line : ℕ) → Tape → Outcome (Option ℕ)
submitted w calls n number None arguments dimensions base line tape = Goes None tape
submitted w calls n number (Some f) arguments dimensions base line tape = submitted_as w calls n number f f.task arguments dimensions base line tape

-- calls that nest at most as deep as the fuel, in which each loop makes at most as many turns
abbrev pub calls_of : World → List Function → ℕ → Calls
calls_of w fs zero = record {
  call = λ k arguments line tape. Stops Tired tape;
  submit = λ k arguments dimensions base line tape. Stops Tired tape;
}
calls_of w fs (suc n) = record {
  call = λ k arguments line tape. called w (calls_of w fs n) n (slice_get fs k) arguments line tape;
  submit = λ k arguments dimensions base line tape. submitted w (calls_of w fs n) n k (slice_get fs k) arguments dimensions base line tape;
}

-- a function of the program from its entry on, with its arguments, in a line
abbrev pub begun : World → List Function → ℕ → Option Function → (arguments : List ℕ) → (line : ℕ) → Tape → Outcome Halt
begun w fs n None arguments line tape = Goes Stuck tape
begun w fs n (Some f) arguments line tape = applied w (calls_of w fs n) n f arguments line tape

abbrev pub run_of : World → Program → (function : ℕ) (arguments : List ℕ) (line : ℕ) → Tape → ℕ → Outcome Halt
run_of w p k arguments line tape n = begun w p.functions n (slice_get p.functions k) arguments line tape

-- main's dialogue, from its entry
abbrev pub source : World → Program → ℕ → Outcome (Option ℤ)
source w p n =
    let f = slice_get (code_of p).functions p.main in
    then_do (run_of w p p.main [] (entry_line f) [] n) (main_ends w (frame_of f))

-- the dialogue of a function alone as a task's body
abbrev pub alone : World → Program → (function : ℕ) → (arguments : List ℕ) → (line : ℕ) → ℕ → Outcome (Option ℕ)
alone w p function arguments line n =
    then_do (run_of w p function arguments line [] n) (body_ends w (frame_of (slice_get (code_of p).functions function)))

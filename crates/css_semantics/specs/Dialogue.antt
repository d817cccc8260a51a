-- A program is a dialogue with a world: it asks one thing after another, and the world replies or ends the dialogue.
use Rattle.std.specs.Prelude.{ℕ, ℤ, Bool, true, false, List, [], ◌∷◌, ◌++◌}
use Rattle.css_base.specs.declared.direction.Direction.{Direction}
use Rattle.css_base.specs.declared.ending.FaultKind.{FaultKind}
use Rattle.css_base.specs.declared.ending.FaultKind.TheVariants.{OutsideMemory}
use Rattle.css_base.specs.declared.ending.Stop.{Stop}
use Rattle.css_base.specs.declared.ending.Stop.TheVariants as stops
use Rattle.css_base.specs.declared.rule.Rule.{Rule}

-- what a task is given for a pointer: where it points to, the bytes of an element, the dimensions as they are given, which are rows,
-- width and stride where they are strided, and what the task does with it
pub record Argument : Type 0 where
  pub base : ℕ
  pub element : ℕ
  pub dimensions : List ℤ
  pub is_strided : Bool
  pub direction : Direction

-- a call of a task: its number among the functions, its integer arguments, its pointers in order of parameters, main's stack place,
-- and whether it goes before others
pub record Call : Type 0 where
  pub function : ℕ
  pub scalars : List ℕ
  pub arguments : List Argument
  pub stack_place : ℕ
  pub is_high : Bool

-- one thing that a program asks or does
pub data Action : Type 0 where
  -- enters a function with a frame of so many bytes; the reply is the frame's base
  Enter : (size : ℕ) → Action
  -- enters the body of a loop
  Turn : Action
  -- leaves the frame of so many bytes at this base
  Leave : (base size : ℕ) → Action
  -- loads so many bytes; the reply is their big-endian value without sign
  Load : (address width : ℕ) → Action
  -- stores these bytes
  Store : (address : ℕ) (bytes : List ℕ) → Action
  -- writes these bytes, the text of one conversion; the reply is their number
  Out : (bytes : List ℕ) → Action
  -- takes a byte of the input; the reply is that byte, or at the end 2^64 - 1, which stands for -1
  In : Action
  -- takes so many bytes of the heap; the reply is their address, or 0
  Malloc : (size : ℕ) → Action
  -- calls a task while started; its body follows, if the reply isn't 0, and then its return
  Calls : (call : Call) → Action
  Returns : Action
  -- begins to make tasks of calls, ends it, and waits for all of them
  Start : Action
  Finish : Action
  Barrier : Action
  -- waits for the object at an address
  Wait : (address : ℕ) → Action
  -- is at fault: in the expressions of a wait, in a dimension of a task's call, and anywhere else
  WaitFault : Action
  DimFault : Action
  Fault : (kind : FaultKind) → Action
  -- ends main with this result
  End : (result : ℤ) → Action

-- a thing that is asked, with its line of the program's text; aside is what the expressions of a wait and dimensions ask
pub record Item : Type 0 where
  pub action : Action
  pub line : ℕ
  pub is_aside : Bool

-- what was asked so far, the newest first
abbrev pub Tape : Type 0
Tape = List Item

-- the world's reply: go on with this value, or the access isn't wholly live, or a rule refuses what is asked
pub data Reply : Type 0 where
  Says : (value : ℕ) → Reply
  Fails : Reply
  Refuses : (rule : Rule) → Reply

-- a world replies to what is asked now, after all that was asked before
abbrev pub World : Type 0
World = Tape → Item → Reply

-- why a dialogue stops before there is a value: at a fault or by a rule, in a line, or because the fuel is spent by which a
-- definition ends
pub data Reason : Type 0 where
  Stopped : (stop : Stop) (line : ℕ) → Reason
  Tired : Reason

-- a value, or why there is none, with the tape
pub data Outcome (A : Type 0) : Type 0 where
  Goes : (value : A) (tape : Tape) → Outcome A
  Stops : (why : Reason) (tape : Tape) → Outcome A

-- the tape of an outcome
abbrev pub tape_of : {A : Type 0} → Outcome A → Tape
tape_of (Goes value tape) = tape
tape_of (Stops why tape) = tape

-- goes on from a value
abbrev pub then_do : {A B : Type 0} → Outcome A → (A → Tape → Outcome B) → Outcome B
then_do (Goes value tape) go = go value tape
then_do (Stops why tape) go = Stops why tape

-- where an expression stands: in a dimension of a call with these arguments, in the expressions of a wait, or anywhere else
pub data Mode : Type 0 where
  Plain : Mode
  Waiting : Mode
  Measuring : (arguments : List ℤ) → Mode

abbrev pub is_aside_in : Mode → Bool
is_aside_in Plain = false
is_aside_in Waiting = true
is_aside_in (Measuring arguments) = true

abbrev pub item_in : Mode → Action → ℕ → Item
item_in mode action line = record { action = action; line = line; is_aside = is_aside_in mode }

abbrev pub item : Action → ℕ → Item
item action line = item_in Plain action line

-- ---- faults

-- the program is at fault, which stands on the tape
abbrev pub fault : {A : Type 0} → FaultKind → ℕ → Tape → Outcome A
fault kind line tape = Stops (Stopped (stops.Fault kind) line) (item (Fault kind) line ∷ tape)

-- what comes of a fault that is an item of its own: a rule may refuse it, and else the dialogue stops behind it
abbrev pub at_fault : {A : Type 0} → Reply → FaultKind → Item → Tape → Outcome A
at_fault (Says value) kind i tape = Stops (Stopped (stops.Fault kind) i.line) (i ∷ tape)
at_fault Fails kind i tape = Stops (Stopped (stops.Fault kind) i.line) (i ∷ tape)
at_fault (Refuses rule) kind i tape = Stops (Stopped (stops.Rule rule) i.line) tape

-- the program is at fault, in a mode
abbrev pub fault_in : {A : Type 0} → World → Mode → FaultKind → ℕ → Tape → Outcome A
fault_in w Plain kind line tape = fault kind line tape
fault_in w Waiting kind line tape = let i = item_in Waiting WaitFault line in at_fault (w tape i) kind i tape
fault_in w (Measuring arguments) kind line tape = let i = item_in (Measuring arguments) DimFault line in at_fault (w tape i) kind i tape

-- ---- what is asked

-- What comes of an item behind a tape: one that a rule refuses isn't done, and doesn't stand on the tape. An access that isn't wholly
-- live comes to this behind the item.
abbrev pub replied_or : (failed : Tape → Outcome ℕ) → Reply → Item → Tape → Outcome ℕ
replied_or failed (Says value) i tape = Goes value (i ∷ tape)
replied_or failed Fails i tape = failed (i ∷ tape)
replied_or failed (Refuses rule) i tape = Stops (Stopped (stops.Rule rule) i.line) tape

abbrev pub replied : Reply → Item → Tape → Outcome ℕ
replied reply i tape = replied_or (fault OutsideMemory i.line) reply i tape

abbrev pub replied_in : World → Mode → Reply → Item → Tape → Outcome ℕ
replied_in w mode reply i tape = replied_or (fault_in w mode OutsideMemory i.line) reply i tape

-- asks one thing, in a line
abbrev pub ask : World → Action → ℕ → Tape → Outcome ℕ
ask w action line tape = replied (w tape (item action line)) (item action line) tape

-- asks one thing, in a mode and a line; in plain mode that is the same
abbrev pub ask_in : World → Mode → Action → ℕ → Tape → Outcome ℕ
ask_in w mode action line tape = let i = item_in mode action line in replied_in w mode (w tape i) i tape

-- asks one thing, and goes on with a value of one's own
abbrev pub tell : {A : Type 0} → World → Action → ℕ → A → Tape → Outcome A
tell w action line a tape = then_do (ask w action line tape) (λ r t. Goes a t)

-- the bytes that an action writes
abbrev pub written_by : Action → List ℕ
written_by (Enter size) = []
written_by Turn = []
written_by (Leave base size) = []
written_by (Load address width) = []
written_by (Store address bytes) = []
written_by (Out bytes) = bytes
written_by In = []
written_by (Malloc size) = []
written_by (Calls call) = []
written_by Returns = []
written_by Start = []
written_by Finish = []
written_by Barrier = []
written_by (Wait address) = []
written_by WaitFault = []
written_by DimFault = []
written_by (Fault kind) = []
written_by (End result) = []

-- all that a tape writes, the oldest first
abbrev pub output : Tape → List ℕ
output [] = []
output (i ∷ tape) = output tape ++ written_by i.action

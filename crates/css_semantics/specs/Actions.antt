-- What an action is: to a memory, to the units, to tasks, and for whom it is asked.
use Rattle.std.specs.Prelude.{ℕ, Bool, true, false, List}
use Rattle.css_semantics.specs.Dialogue.{Action, Enter, Turn, Leave, Load, Store, Out, In, Malloc, Calls, Returns, Start, Finish, Barrier, Wait, WaitFault, DimFault, Fault, End, Call}

-- ---- memory

-- what an action is to a memory: a frame of so many bytes is entered, or left at its base; bytes are loaded or stored; the heap grows by
-- so many; or nothing
pub data Access : Type 0 where
  Enters : (size : ℕ) → Access
  Leaves : (base size : ℕ) → Access
  Loads : (address width : ℕ) → Access
  Stores : (address : ℕ) (bytes : List ℕ) → Access
  Allots : (size : ℕ) → Access
  NoAccess : Access

abbrev pub access_of : Action → Access
access_of (Enter size) = Enters size
access_of Turn = NoAccess
access_of (Leave base size) = Leaves base size
access_of (Load address width) = Loads address width
access_of (Store address bytes) = Stores address bytes
access_of (Out bytes) = NoAccess
access_of In = NoAccess
access_of (Malloc size) = Allots size
access_of (Calls call) = NoAccess
access_of Returns = NoAccess
access_of Start = NoAccess
access_of Finish = NoAccess
access_of Barrier = NoAccess
access_of (Wait address) = NoAccess
access_of WaitFault = NoAccess
access_of DimFault = NoAccess
access_of (Fault kind) = NoAccess
access_of (End result) = NoAccess

-- ---- the input

-- how many bytes of the input an action takes
abbrev pub bytes_taken : Action → ℕ
bytes_taken (Enter size) = 0
bytes_taken Turn = 0
bytes_taken (Leave base size) = 0
bytes_taken (Load address width) = 0
bytes_taken (Store address bytes) = 0
bytes_taken (Out bytes) = 0
bytes_taken In = 1
bytes_taken (Malloc size) = 0
bytes_taken (Calls call) = 0
bytes_taken Returns = 0
bytes_taken Start = 0
bytes_taken Finish = 0
bytes_taken Barrier = 0
bytes_taken (Wait address) = 0
bytes_taken WaitFault = 0
bytes_taken DimFault = 0
bytes_taken (Fault kind) = 0
bytes_taken (End result) = 0

-- ---- units

-- whether an action takes a unit, as the entry of a function or of a loop's body
pub data Taking : Type 0 where
  OnEntry : Taking
  OnTurn : Taking
  NoUnit : Taking

abbrev pub taking_of : Action → Taking
taking_of (Enter size) = OnEntry
taking_of Turn = OnTurn
taking_of (Leave base size) = NoUnit
taking_of (Load address width) = NoUnit
taking_of (Store address bytes) = NoUnit
taking_of (Out bytes) = NoUnit
taking_of In = NoUnit
taking_of (Malloc size) = NoUnit
taking_of (Calls call) = NoUnit
taking_of Returns = NoUnit
taking_of Start = NoUnit
taking_of Finish = NoUnit
taking_of Barrier = NoUnit
taking_of (Wait address) = NoUnit
taking_of WaitFault = NoUnit
taking_of DimFault = NoUnit
taking_of (Fault kind) = NoUnit
taking_of (End result) = NoUnit

-- ---- tasks

-- what an action is to the body of a task: the call before it, or the return behind it
pub data Boundary : Type 0 where
  BodyBegins : (call : Call) → Boundary
  BodyEnds : Boundary
  NoBoundary : Boundary

abbrev pub boundary_of : Action → Boundary
boundary_of (Enter size) = NoBoundary
boundary_of Turn = NoBoundary
boundary_of (Leave base size) = NoBoundary
boundary_of (Load address width) = NoBoundary
boundary_of (Store address bytes) = NoBoundary
boundary_of (Out bytes) = NoBoundary
boundary_of In = NoBoundary
boundary_of (Malloc size) = NoBoundary
boundary_of (Calls call) = BodyBegins call
boundary_of Returns = BodyEnds
boundary_of Start = NoBoundary
boundary_of Finish = NoBoundary
boundary_of Barrier = NoBoundary
boundary_of (Wait address) = NoBoundary
boundary_of WaitFault = NoBoundary
boundary_of DimFault = NoBoundary
boundary_of (Fault kind) = NoBoundary
boundary_of (End result) = NoBoundary

-- a task's call or its return
abbrev pub bounds : Boundary → Bool
bounds (BodyBegins call) = true
bounds BodyEnds = true
bounds NoBoundary = false

abbrev pub is_of_calls : Action → Bool
is_of_calls action = bounds (boundary_of action)

-- what an action is as a directive: it begins to make tasks of calls, ends that, or waits, for all tasks or for the object at an
-- address
pub data Directive : Type 0 where
  Starting : Directive
  Finishing : Directive
  AtBarrier : Directive
  WaitingOn : (address : ℕ) → Directive
  NoDirective : Directive

abbrev pub directive_of : Action → Directive
directive_of (Enter size) = NoDirective
directive_of Turn = NoDirective
directive_of (Leave base size) = NoDirective
directive_of (Load address width) = NoDirective
directive_of (Store address bytes) = NoDirective
directive_of (Out bytes) = NoDirective
directive_of In = NoDirective
directive_of (Malloc size) = NoDirective
directive_of (Calls call) = NoDirective
directive_of Returns = NoDirective
directive_of Start = Starting
directive_of Finish = Finishing
directive_of Barrier = AtBarrier
directive_of (Wait address) = WaitingOn address
directive_of WaitFault = NoDirective
directive_of DimFault = NoDirective
directive_of (Fault kind) = NoDirective
directive_of (End result) = NoDirective

-- ---- faults aside

-- whether an action is a fault in the expressions of a wait, or in a dimension
pub data FaultAside : Type 0 where
  InWait : FaultAside
  InDimension : FaultAside
  NotAside : FaultAside

abbrev pub fault_aside_of : Action → FaultAside
fault_aside_of (Enter size) = NotAside
fault_aside_of Turn = NotAside
fault_aside_of (Leave base size) = NotAside
fault_aside_of (Load address width) = NotAside
fault_aside_of (Store address bytes) = NotAside
fault_aside_of (Out bytes) = NotAside
fault_aside_of In = NotAside
fault_aside_of (Malloc size) = NotAside
fault_aside_of (Calls call) = NotAside
fault_aside_of Returns = NotAside
fault_aside_of Start = NotAside
fault_aside_of Finish = NotAside
fault_aside_of Barrier = NotAside
fault_aside_of (Wait address) = NotAside
fault_aside_of WaitFault = InWait
fault_aside_of DimFault = InDimension
fault_aside_of (Fault kind) = NotAside
fault_aside_of (End result) = NotAside

-- ---- for whom it is asked

-- an action is asked by a machine of its space or of its units, by main of the heap and of what stands outside, or for tasks alone, as a
-- fault aside is; or it is a fault
pub data Kind : Type 0 where
  OfMachine : Kind
  OfMain : Kind
  OfTasks : Kind
  OfFault : Kind

abbrev pub kind_of : Action → Kind
kind_of (Enter size) = OfMachine
kind_of Turn = OfMachine
kind_of (Leave base size) = OfMachine
kind_of (Load address width) = OfMachine
kind_of (Store address bytes) = OfMachine
kind_of (Out bytes) = OfMain
kind_of In = OfMain
kind_of (Malloc size) = OfMain
kind_of (Calls call) = OfTasks
kind_of Returns = OfTasks
kind_of Start = OfTasks
kind_of Finish = OfTasks
kind_of Barrier = OfTasks
kind_of (Wait address) = OfTasks
kind_of WaitFault = OfTasks
kind_of DimFault = OfTasks
kind_of (Fault kind) = OfFault
kind_of (End result) = OfMain

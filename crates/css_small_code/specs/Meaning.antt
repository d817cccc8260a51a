-- What a program means: the dialogue that it has with a world.
use Rattle.std.specs.Prelude.{ℕ, zero, suc, ◌+◌, ◌*◌, ◌%◌, ◌^◌, ℤ, pos, Bool, false, not, ◌&&◌, List, [], ◌∷◌, Option, Some, None, slice_get, if◌then◌else◌}
use Rattle.std.specs.Ordering.{int_eq}
use Rattle.css_base.specs.declared.direction.Direction.TheVariants.{InOut}
use Rattle.css_base.specs.declared.int_type.IntType.TheVariants.{Int}
use Rattle.css_base.specs.declared.ending.FaultKind.TheVariants.{DivideByZero}
use Rattle.css_num.specs.Conversion.{modulo, representation, converted}
use Rattle.css_num.specs.Operators.{truth_value, unary_value, binary_value}
use Rattle.css_semantics.specs.Dialogue as dialogue
use Rattle.css_semantics.specs.Dialogue.{Action, Enter, Turn, Leave, Load, Store, Out, Calls, Returns, End, Tape, World, Outcome, Goes, Stops, Tired, then_do, ask, fault}
use Rattle.css_semantics.specs.Memory.{big_endian_bytes}
use Rattle.css_semantics.specs.Tasks.{is_started}
use Rattle.css_small.specs.declared.tree.Directive.{Directive}
use Rattle.css_small.specs.declared.tree.Directive.TheVariants as directives
use Rattle.css_small.specs.Tree as tree
use Rattle.css_small.specs.Tree.{Expression, Number, Variable, Element, Unary, Binary, And, Or, Statement, Declare, Initialise, Empty, Assign, AssignElement, Call, Mark, Put, Return, Block, If, IfElse, While, Statements, More, Function, Program}

-- A function's objects stand in order in its frame, the first at the lowest address, each in 8 bytes, of which an int and a pointer
-- take 4.
abbrev pub place_of : ℕ → ℕ
place_of k = 8 * k

-- addresses have 32 bits
abbrev pub address_of : ℕ → ℕ → ℕ
address_of base k = (base + place_of k) % 2 ^ 32

abbrev pub frame_of : Function → ℕ
frame_of f = place_of (f.parameters + f.variables)

-- the address of the int so many places behind the one at an address
abbrev pub element_of : (pointer : ℕ) → ℤ → ℕ
element_of pointer i = (pointer + modulo i (2 ^ 32) * 4) % 2 ^ 32

-- a value, or a division by zero in a line
abbrev pub given : Option ℤ → ℕ → Tape → Outcome ℤ
given None line tape = fault DivideByZero line tape
given (Some v) line tape = Goes v tape

abbrev pub is_true : ℤ → Bool
is_true v = not (int_eq v (pos 0))

-- in a world, with a function's frame at a base
module _ (w : World) (base : ℕ) where
  -- an int at an address
  abbrev pub load : (address : ℕ) → ℕ → Tape → Outcome ℤ
  load address line tape = then_do (ask w (Load address 4) line tape) (λ r t. Goes (converted Int (pos r)) t)

  abbrev pub store : (address : ℕ) → ℤ → ℕ → Tape → Outcome ℕ
  store address v line tape = ask w (Store address (big_endian_bytes 4 (representation Int v))) line tape

  -- the pointer that the parameter is
  abbrev pub pointer : ℕ → Tape → Outcome ℕ
  pointer line tape = ask w (Load (address_of base 0) 4) line tape

  -- the address of an element, by its index's dialogue
  abbrev pub element_at : (Tape → Outcome ℤ) → ℕ → Tape → Outcome ℕ
  element_at index line tape = then_do (pointer line tape) (λ p t. then_do (index t) (λ i t'. Goes (element_of p i) t'))

  -- operands from left to right
  abbrev pub value_of : Expression → ℕ → Tape → Outcome ℤ
  value_of (Number value) line tape = Goes (pos value) tape
  value_of (Variable k) line tape = load (address_of base k) line tape
  value_of (Element e) line tape = then_do (element_at (value_of e line) line tape) (λ address t. load address line t)
  value_of (Unary op e) line tape = then_do (value_of e line tape) (λ v t. Goes (unary_value op Int v) t)
  value_of (Binary op a b) line tape =
      then_do (value_of a line tape) (λ x t. then_do (value_of b line t) (λ y t'. given (binary_value op Int x y) line t'))
  value_of (And a b) line tape =
      then_do (value_of a line tape) (λ x t. if is_true x then then_do (value_of b line t) (λ y t'. Goes (truth_value (is_true y)) t') else Goes (pos 0) t)
  value_of (Or a b) line tape =
      then_do (value_of a line tape) (λ x t. if is_true x then Goes (pos 1) t else then_do (value_of b line t) (λ y t'. Goes (truth_value (is_true y)) t'))

  -- the address of `p[e]`
  abbrev pub element : Expression → ℕ → Tape → Outcome ℕ
  element e line tape = element_at (value_of e line) line tape

-- how a statement is left
pub data Flow : Type 0 where
  Next : Flow
  Returned : (value : ℤ) (line : ℕ) → Flow

-- the statements behind another
abbrev pub on_next : (Tape → Outcome Flow) → Flow → Tape → Outcome Flow
on_next go Next tape = go tape
on_next go (Returned value line) tape = Goes (Returned value line) tape

-- A loop: while its condition is true, it enters its body, which asks for a turn. It makes at most so many turns.
abbrev pub turning : World → (Tape → Outcome ℤ) → (Tape → Outcome Flow) → ℕ → ℕ → Tape → Outcome Flow
turning w condition body line zero tape = Stops Tired tape
turning w condition body line (suc n) tape =
    then_do (condition tape) (λ v t.
    if is_true v then then_do (ask w Turn line t) (λ r t'. then_do (body t') (on_next (turning w condition body line n))) else Goes Next t)

-- what a call of a function means, by its number and its argument, where the caller's frame is at a base, in a line
abbrev pub Calling : Type 0
Calling = (function argument base line : ℕ) → Tape → Outcome ℕ

abbrev pub action_of : Directive → Action
action_of directives.Start = dialogue.Start
action_of directives.Finish = dialogue.Finish
action_of directives.Barrier = dialogue.Barrier

-- in a world where calls mean this, with a function's frame at a base, where each loop makes fewer turns than the fuel
module _ (w : World) (call : Calling) (base fuel : ℕ) where
  -- stores an expression's value in a variable
  abbrev pub assigned : ℕ → Expression → ℕ → Tape → Outcome Flow
  assigned k e line tape = then_do (value_of w base e line tape) (λ v t. then_do (store w base (address_of base k) v line t) (λ r t'. Goes Next t'))

  -- stores an expression's value in an element: the place comes first
  abbrev pub element_assigned : Expression → Expression → ℕ → Tape → Outcome Flow
  element_assigned i e line tape =
      then_do (element w base i line tape) (λ address t. then_do (value_of w base e line t) (λ v t'. then_do (store w base address v line t') (λ r t''. Goes Next t'')))

  abbrev mutual
    pub meaning : Statement → Tape → Outcome Flow
    meaning (Declare line k) tape = Goes Next tape
    meaning (Initialise line k e) tape = assigned k e line tape
    meaning (Empty line) tape = Goes Next tape
    meaning (Assign line k e) tape = assigned k e line tape
    meaning (AssignElement line i e) tape = element_assigned i e line tape
    meaning (Call line f k) tape = then_do (call f (address_of base k) base line tape) (λ r t. Goes Next t)
    meaning (Mark line kind) tape = then_do (ask w (action_of kind) line tape) (λ r t. Goes Next t)
    meaning (Put line e) tape =
        then_do (value_of w base e line tape) (λ v t. then_do (ask w (Out (modulo v 256 ∷ [])) line t) (λ r t'. Goes Next t'))
    meaning (Return line e) tape = then_do (value_of w base e line tape) (λ v t. Goes (Returned v line) t)
    meaning (Block line all) tape = meanings all tape
    meaning (If line e s) tape = then_do (value_of w base e line tape) (λ v t. if is_true v then meaning s t else Goes Next t)
    meaning (IfElse line e s other) tape = then_do (value_of w base e line tape) (λ v t. if is_true v then meaning s t else meaning other t)
    meaning (While line e s) tape = turning w (value_of w base e line) (meaning s) line fuel tape

    pub meanings : Statements → Tape → Outcome Flow
    meanings tree.End tape = Goes Next tape
    meanings (More s rest) tape = then_do (meaning s tape) (on_next (meanings rest))

-- ---- functions

-- how a function comes to its end: by a return, or at the closing brace, where the value is 0; with its frame's base
pub record Exit : Type 0 where
  pub value : ℤ
  pub line : ℕ
  pub base : ℕ

abbrev pub exit_by : (base end : ℕ) → Flow → Exit
exit_by base end Next = record { value = pos 0; line = end; base = base }
exit_by base end (Returned v line) = record { value = v; line = line; base = base }

-- stores the arguments at the front of the frame
abbrev pub stores : World → (base k : ℕ) → List ℕ → ℕ → Tape → Outcome ℕ
stores w base k [] line tape = Goes 0 tape
stores w base k (a ∷ arguments) line tape =
    then_do (ask w (Store (address_of base k) (big_endian_bytes 4 a)) line tape) (λ r t. stores w base (k + 1) arguments line t)

-- a function's dialogue from its entry, which has a line, to its end, before it leaves its frame
abbrev pub applied : World → Calling → (fuel : ℕ) → Function → (arguments : List ℕ) → ℕ → Tape → Outcome Exit
applied w call fuel f arguments line tape =
    then_do (ask w (Enter (frame_of f)) line tape) (λ base t. then_do (stores w base 0 arguments line t) (λ r t'.
    then_do (meanings w call base fuel f.body t') (λ flow t''. Goes (exit_by base f.end flow) t'')))

-- a function leaves its frame
abbrev pub left : World → (frame : ℕ) → Exit → Tape → Outcome ℕ
left w frame exit tape = ask w (Leave exit.base frame) exit.line tape

-- a call of a function: its whole dialogue
abbrev pub plain_call : World → Calling → (fuel : ℕ) → Function → (argument line : ℕ) → Tape → Outcome ℕ
plain_call w call fuel f argument line tape =
    then_do (applied w call fuel f (argument ∷ []) line tape) (left w (frame_of f))

-- a task's call, which gives an int to read and write; none goes before others
abbrev pub task_call_of : (function argument base : ℕ) → dialogue.Call
task_call_of function argument base = record {
  function = function;
  scalars = [];
  arguments = record { base = argument; element = 4; dimensions = []; is_strided = false; direction = InOut } ∷ [];
  stack_place = base;
  is_high = false;
}

-- Behind a task's call, by the world's reply: the body is run, and its return is the task's; or it isn't run, and the call returns at
-- once.
abbrev pub task_body : World → Calling → (fuel : ℕ) → Function → (argument line : ℕ) → ℕ → Tape → Outcome ℕ
task_body w call fuel f argument line zero tape = ask w Returns line tape
task_body w call fuel f argument line (suc reply) tape =
    then_do (applied w call fuel f (argument ∷ []) line tape) (λ exit t.
    then_do (left w (frame_of f) exit t) (λ r t'. ask w Returns exit.line t'))

-- a call of a function that is there: of a task where tasks are made, and else plain
abbrev pub called : World → Calling → (fuel : ℕ) → (number : ℕ) → Option Function → (argument base line : ℕ) → Tape → Outcome ℕ
called w call fuel number None argument base line tape = Stops Tired tape
called w call fuel number (Some f) argument base line tape =
    if f.is_task && is_started tape
    then then_do (ask w (Calls (task_call_of number argument base)) line tape) (task_body w call fuel f argument line)
    else plain_call w call fuel f argument line tape

-- calls that nest at most as deep as the fuel
abbrev pub calls : World → List Function → ℕ → Calling
calls w functions zero number argument base line tape = Stops Tired tape
calls w functions (suc fuel) number argument base line tape =
    called w (calls w functions fuel) fuel number (slice_get functions number) argument base line tape

-- where tasks are made, main's end acts as finish
abbrev pub finished : World → ℕ → Tape → Outcome ℕ
finished w line tape = if is_started tape then ask w dialogue.Finish line tape else Goes 0 tape

-- main leaves its frame and ends with its value
abbrev pub main_left : World → (frame : ℕ) → Exit → Tape → Outcome ℤ
main_left w frame exit tape =
    then_do (finished w exit.line tape) (λ r t. then_do (left w frame exit t) (λ r' t'. then_do (ask w (End exit.value) exit.line t') (λ r'' t''. Goes exit.value t'')))

-- the program's dialogue, from main's entry
abbrev pub source : World → ℕ → Program → Outcome ℤ
source w fuel p =
    then_do (applied w (calls w p.functions fuel) fuel p.main [] p.main.line []) (main_left w (frame_of p.main))

-- the dialogue of a function alone as a task's body, with its arguments, from its entry in a line; its value
abbrev pub alone : World → ℕ → Function → (arguments : List ℕ) → (line : ℕ) → Outcome ℤ
alone w fuel f arguments line =
    then_do (applied w (calls w [] fuel) fuel f arguments line []) (λ exit t. then_do (left w (frame_of f) exit t) (λ r t'.
    then_do (ask w Returns exit.line t') (λ r' t''. Goes exit.value t'')))

-- What an instruction does that goes on at the next place: to the stack, and to the space.
use Rattle.std.specs.Prelude.{◌≡◌, ℕ, ◌+◌, ◌-◌, List, [], length, Bool, true, false}
use Rattle.css_base.specs.declared.ending.Stop.{Stop}
use Rattle.css_semantics.specs.Dialogue.{Action, Reply, Tape, World}
use Rattle.css_vm.specs.declared.code.Op.{Op}
use Rattle.css_vm.specs.declared.code.Op.TheVariants as ops
use Rattle.css_vm.specs.declared.code.Narrow.{Narrow}
use Rattle.css_vm.specs.declared.code.Narrow.TheVariants as narrows
use Rattle.css_vm.specs.Code.{Code}
use Rattle.css_vm.specs.Roles.{Role, Pushing, Computing, Dividing, Accessing, Jumping, Branching, Calling, Submitting, Marking, Turning, Writing, Returning, role_of}
use Rattle.css_vm.specs.Machine.{Caller, effect, next}
use Rattle.css_vm.specs.Soundness.{takes, gives}
use Rattle.css_vm.specs.Events.{Along, StopsAt}
use Rattle.css_vm.specs.Stacks.{running}

-- the instructions that leave the next place to themselves
abbrev pub leads_next : Role → Bool
leads_next (Pushing below) = true
leads_next (Computing taken given) = true
leads_next Dividing = true
leads_next (Accessing taken) = true
leads_next (Jumping to) = false
leads_next (Branching to) = false
leads_next (Calling k) = false
leads_next (Submitting k) = false
leads_next (Marking kind) = false
leads_next Turning = false
leads_next Writing = false
leads_next Returning = false

abbrev pub goes_on : Op → Bool
goes_on op = leads_next (role_of op)

-- the instructions that only change the stack
abbrev pub changes_stack : Role → Bool
changes_stack (Pushing below) = true
changes_stack (Computing taken given) = true
changes_stack Dividing = false
changes_stack (Accessing taken) = false
changes_stack (Jumping to) = false
changes_stack (Branching to) = false
changes_stack (Calling k) = false
changes_stack (Submitting k) = false
changes_stack (Marking kind) = false
changes_stack Turning = false
changes_stack Writing = false
changes_stack Returning = false

abbrev pub is_silent : Op → Bool
is_silent op = changes_stack (role_of op)

-- those of them that need no more room
abbrev pub computes : Role → Bool
computes (Pushing below) = false
computes (Computing taken given) = true
computes Dividing = false
computes (Accessing taken) = false
computes (Jumping to) = false
computes (Branching to) = false
computes (Calling k) = false
computes (Submitting k) = false
computes (Marking kind) = false
computes Turning = false
computes Writing = false
computes Returning = false

abbrev pub needs_no_room : Op → Bool
needs_no_room op = computes (role_of op)

-- how a load narrows what it loads
abbrev pub Narrows : Op → Narrow → Type 0
Narrows ops.Load32u t = t ≡ narrows.U32
Narrows ops.Load32s t = t ≡ narrows.S32
Narrows op t = ⊥

-- code without functions: what an instruction takes that names none is the same there
abbrev pub no_functions : Code
no_functions = record { functions = []; main = 0 }

-- the stack's height after an instruction that goes on
abbrev pub IsHeightAfter : Op → (old new : List ℕ) → Type 0
IsHeightAfter op old new = length new ≡ length old - takes no_functions op + gives no_functions op

-- An instruction makes one stack of another, in each world, and goes on at the next place.
pub record Changes (op : Op) (base : ℕ) (old new : List ℕ) : Type 0 where
  pub does : (w : World) (code : Code) (function : ℕ) (callers : List Caller) (line place : ℕ) (tape : Tape) →
      effect w code (running function base) callers line place op old tape ≡ next w code (running function base) callers line place new tape
  pub height : IsHeightAfter op old new

-- the same, along the way from one space to another
pub record Performs {S : Type 0} (reply : S → Action → Reply) (learn : S → Action → S) (op : Op) (base : ℕ) (old : List ℕ) (space : S) (new : List ℕ) (space' : S) : Type 0 where
  pub does : (code : Code) (function : ℕ) (callers : List Caller) (line place : ℕ) →
      Along reply learn space space' (λ w tape later. effect w code (running function base) callers line place op old tape ≡ next w code (running function base) callers line place new later)
  pub height : IsHeightAfter op old new

-- an instruction stops
pub record Halts {S : Type 0} (reply : S → Action → Reply) (learn : S → Action → S) (op : Op) (base : ℕ) (old : List ℕ) (space : S) (stop : Stop) : Type 0 where
  pub stops : (code : Code) (function : ℕ) (callers : List Caller) (line place : ℕ) →
      (space' : S) × Along reply learn space space' (λ w tape later. StopsAt stop line (effect w code (running function base) callers line place op old tape) later)

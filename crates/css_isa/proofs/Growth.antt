-- Tapes only grow, and more steps only go on where fewer end.
use Rattle.std.proofs.Common.{◌≡◌, ℕ, ◌+◌, Bool, true, false, if◌then◌else◌, [], ◌∷◌, ◌++◌, refl, sym, ap, ◌∙◌, subst, append_assoc, arith}
use Rattle.css_base.specs.declared.ending.FaultKind.{FaultKind}
use Rattle.css_base.specs.declared.ending.FaultKind.TheVariants.{OutsideMemory}
use Rattle.css_semantics.specs.Dialogue.{Action, Fault, WaitFault, DimFault, Item, item, item_in, Tape, Reply, Says, Fails, Refuses, World, Outcome, Goes, Stops, Stopped, Tired, then_do, Mode, Plain, Waiting, Measuring, at_fault, fault_in, replied_in, ask_in}
use Rattle.css_isa.specs.Code.{Code}
use Rattle.css_isa.specs.Steps.{State, Halt, Step, Moves, Requests, Notifies, Fails as AtFault, Tests, Enters, Leaves, Submits, Halts, step_of}
use Rattle.css_semantics.specs.Tasks.{makes_tasks}
use Rattle.css_isa.specs.Machine.{exec}
use Rattle.css_isa.specs.Walks.{Relation, IsKept, Keeps, IsClosed}
use Rattle.css_semantics.specs.Fronts.{Extends, Grows}
use Rattle.css_semantics.proofs.Growth.{grows_then, grows_if, grows_fault, grows_ask, extends_same, extends_then, extends_if}
use Rattle.css_isa.proofs.Walk.{kept_exec}

-- ---- where anything may be asked, from any state

abbrev pub Anything : Mode → Action → Type 0
Anything mode action = Unit {0}

abbrev pub Anywhere : State → Type 0
Anywhere s = Unit {0}

all_keep : (s : Step) → Keeps Anything Anywhere s
all_keep (Moves next) = tt
all_keep (Requests mode action line t next) = (tt, λ r. tt)
all_keep (Notifies mode action line next) = (tt, tt)
all_keep (AtFault mode kind line) = tt
all_keep (Tests begun other) = (tt, tt)
all_keep (Enters function f is_task arguments line callers) = (record { enters = tt; stores = λ address bytes. tt }, λ base. tt)
all_keep (Leaves base size is_task line next) = (tt, (λ e. tt), tt)
all_keep (Submits call function f arguments line callers next) = (tt, tt, record { enters = tt; stores = λ address bytes. tt }, (λ base. tt), tt)
all_keep (Halts halt) = tt

pub always_closed : (code : Code) → IsClosed code Anything Anywhere
always_closed code s good = all_keep (step_of code s)

-- ---- the relation

-- behind each tape the second dialogue extends the first, and adds to the tape
abbrev pub More : Relation
More A d d' = (t : Tape) → Extends (d t) (d' t) × Grows t (d' t)

more_kept : (w : World) → IsKept More Anything w w
more_kept w = record {
  goes = λ a t. (refl, ([], refl));
  binds = λ {d} {d'} {go} {go'} first next t. (extends_then (d t) (d' t) go go' (first t).0 (λ a t'. (next a t').0) (λ a t'. (next a t').1), grows_then (d' t) go' t (first t).1 (λ a t'. (next a t').1));
  asks = λ mode action line may t. (extends_same (ask_in w mode action line t), grows_ask w mode action line t);
  faults = λ A mode kind line may t. (extends_same (fault_in w mode kind line t), grows_fault A w mode kind line t);
  cases = λ {d} {d'} {e} {e'} first second t. (extends_if (makes_tasks t) (d t) (d' t) (e t) (e' t) (first t).0 (second t).0, grows_if (makes_tasks t) (d' t) (e' t) t (first t).1 (second t).1);
}

tired_more : (w : World) (code : Code) (s : State) → More Halt (Stops Tired) (exec w code 0 s)
tired_more w code s t = (([], refl), ([], refl))

pub grows_exec : (w : World) (code : Code) (n : ℕ) (s : State) (t : Tape) → Grows t (exec w code n s t)
grows_exec w code n s t =
    let same : n + 0 ≡ n = omega arith in
    subst (λ k. Grows t (exec w code k s t)) same
    (kept_exec More Anything w w (more_kept w) code Anywhere (always_closed code) n 0 (λ s' good. tired_more w code s') s tt t).1

pub extends_exec : (w : World) (code : Code) (n m : ℕ) (s : State) (t : Tape) → Extends (exec w code n s t) (exec w code (n + m) s t)
extends_exec w code n m s t =
    (kept_exec More Anything w w (more_kept w) code Anywhere (always_closed code) n m (λ s' good t'. (grows_exec w code m s' t', grows_exec w code m s' t')) s tt t).0

-- The machine's dialogue with a world is a front of that with one that replies alike.
use Rattle.std.proofs.Common.{◌≡◌, ℕ, ◌+◌, Bool, true, false, if◌then◌else◌, [], ◌∷◌, refl, sym, ap, subst, arith}
use Rattle.css_base.specs.declared.ending.FaultKind.{FaultKind}
use Rattle.css_base.specs.declared.ending.FaultKind.TheVariants.{OutsideMemory}
use Rattle.css_base.specs.declared.ending.Stop.TheVariants as stops
use Rattle.css_semantics.specs.Dialogue.{Action, WaitFault, DimFault, Item, item_in, Tape, Reply, Says, Fails, Refuses, World, Outcome, Goes, Stops, Stopped, Tired, then_do, Mode, Plain, Waiting, Measuring, at_fault, fault_in, replied_in, ask_in}
use Rattle.css_isa.specs.Code.{Code}
use Rattle.css_isa.specs.Steps.{State, Halt}
use Rattle.css_semantics.specs.Tasks.{makes_tasks}
use Rattle.css_isa.specs.Machine.{exec}
use Rattle.css_isa.specs.Walks.{Relation, IsKept}
use Rattle.css_semantics.specs.Fronts.{RepliesAs, IsFront}
use Rattle.css_semantics.proofs.Fronts.{Front, front_goes, front_tired, front_then, front_if, front_fault, front_ask}
use Rattle.css_isa.proofs.Walk.{kept_exec}
use Rattle.css_isa.proofs.Growth.{Anything, Anywhere, always_closed}

module _ (w w' : World) (Comes : Tape → Type 0) (replies : RepliesAs w w' Comes) where
  abbrev F : Relation
  F = Front Comes

  front_kept : IsKept F Anything w w'
  front_kept = record {
    goes = front_goes Comes;
    binds = front_then Comes;
    asks = λ mode action line may. front_ask w w' Comes replies mode action line;
    faults = λ A mode kind line may. front_fault w w' Comes replies A mode kind line;
    cases = λ first second. front_if Comes makes_tasks first second;
  }

  pub front_exec : (code : Code) (n : ℕ) (s : State) (t : Tape) → Comes t → IsFront (exec w code n s t) (exec w' code n s t)
  front_exec code n s t comes =
      let same : n + 0 ≡ n = omega arith in
      subst (λ k. IsFront (exec w code n s t) (exec w' code k s t)) same
      ((kept_exec F Anything w w' front_kept code Anywhere (always_closed code) n 0 (λ s' good. front_tired Comes Halt) s tt).fronts t comes).1

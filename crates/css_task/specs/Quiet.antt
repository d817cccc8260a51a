-- States of a machine that runs a task's body.
use Rattle.std.specs.Prelude.{◌≡◌, false, List, [], ◌∷◌}
use Rattle.css_vm.specs.Code.{Code}
use Rattle.css_vm.specs.Machine.{Activation, Caller, State, Begin, At}
use Rattle.css_vm.specs.Soundness.{IsReached}

-- a function that a task reaches, and that wasn't called as a task
pub record IsQuietActivation (code : Code) (a : Activation) : Type 0 where
  pub reached : IsReached code a.function
  pub no_task : a.is_task ≡ false

abbrev pub AreQuietCallers : Code → List Caller → Type 0
AreQuietCallers code [] = Unit {0}
AreQuietCallers code (c ∷ callers) = IsQuietActivation code c.activation × AreQuietCallers code callers

-- all functions of the state are such
abbrev pub IsQuietState : Code → State → Type 0
IsQuietState code (Begin k arguments line) = IsReached code k
IsQuietState code (At a callers place stack) = IsQuietActivation code a × AreQuietCallers code callers

-- What a task reaches: it asks for its memory and its units alone.
use Rattle.std.specs.Prelude.{◌≡◌, false, ◌||◌, IsTrue, List, [], ◌∷◌}
use Rattle.css_semantics.specs.Dialogue.{Action, Mode, Plain}
use Rattle.css_semantics.specs.Worlds.{is_of_machine, is_fault}
use Rattle.css_isa.specs.Code.{Code}
use Rattle.css_isa.specs.Soundness.{Plan, IsReached}
use Rattle.css_isa.specs.Steps.{Activation, Caller, State, Begin, At}
use Rattle.css_isa.specs.Fitting.{IsSomewhere}

-- what a task's body may do: in plain mode, ask what a machine's space and its units reply to, or be at fault
abbrev pub MayTask : Mode → Action → Type 0
MayTask mode action = (mode ≡ Plain) × IsTrue (is_of_machine action || is_fault action)

module _ (code : Code) where
  -- a function that a task reaches, which wasn't called as a task
  pub record IsQuietActivation (a : Activation) : Type 0 where
    pub reached : IsReached code a.function
    pub no_task : a.is_task ≡ false
    pub is_plain : a.mode ≡ Plain

  abbrev pub AreQuietCallers : List Caller → Type 0
  AreQuietCallers [] = Unit {0}
  AreQuietCallers (c ∷ callers) = IsQuietActivation c.activation × AreQuietCallers callers

  abbrev pub IsQuietState : State → Type 0
  IsQuietState (Begin k arguments line) = IsReached code k
  IsQuietState (At a callers place stack) = IsQuietActivation a × AreQuietCallers callers

  -- and its places are those of the plans
  abbrev pub IsQuietAt : List Plan → State → Type 0
  IsQuietAt plans s = IsQuietState s × IsSomewhere code plans s

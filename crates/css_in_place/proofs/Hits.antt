-- The first rule that an action breaks, by the task that runs.
use Rattle.std.proofs.Common.{◌≡◌, Option, Some, None, refl}
use Rattle.css_base.specs.declared.ending.FaultKind.{FaultKind}
use Rattle.css_base.specs.declared.limits.Limits.{Limits}
use Rattle.css_base.specs.declared.rule.Rule.{Rule}
use Rattle.css_semantics.specs.Dialogue.{Action, Fault, Tape}
use Rattle.css_semantics.specs.Memory.{Memory}
use Rattle.css_semantics.specs.Tasks.{Body}
use Rattle.css_semantics.specs.Rules.{checks_of_main, checks_of_task, first_broken}

-- the first rule that an action breaks where this is the task that runs
abbrev pub hit_in : Memory → Limits → Tape → Action → Option Body → Option Rule
hit_in m limits tape action o =
    elim o [
      | None ↦ first_broken (checks_of_main m limits tape action)
      | Some b ↦ first_broken (checks_of_task limits b action)
    ]

-- a fault breaks none
pub fault_hit : (m : Memory) (limits : Limits) (tape : Tape) (kind : FaultKind) (o : Option Body) → hit_in m limits tape (Fault kind) o ≡ None
fault_hit m limits tape kind None = refl
fault_hit m limits tape kind (Some b) = refl

-- The yards of the tests.
use Rattle.std.specs.Prelude.{◌≡◌, ◌≤◌, ℕ, List, [], ◌∷◌}
use Rattle.css_record.specs.declared.version.VersionName.{VersionName}
use Rattle.css_record.specs.declared.version.VersionName.TheVariants as names
use Rattle.css_yard.specs.Values.{Submit}
use Rattle.css_yard.specs.Yards.{Open}
use Rattle.css_yard.specs.InOrders.{OrderYard}
use Rattle.css_run_tests.specs.Tasks.{task_code, IsCall, IsGiven}

-- the second task has the first one's value as its input, or is given one
abbrev pub IsSecondInput : VersionName → (given : List (List ℕ)) → Type 0
IsSecondInput (names.Given place) given = (place ≡ 0) × IsGiven given
IsSecondInput (names.Made task out) given = (task ≡ 0) × (out ≡ 0)

-- The yard has a local store and takes calls, and no task was submitted since the last settle; or that of a number; or two.
pub record HasNone (y : OrderYard) : Type 0 where
  pub code : y.code ≡ task_code
  pub store : 32768 ≤ y.limits.local_store
  pub phase : y.state.phase ≡ Open
  pub submits : y.state.submits ≡ []

pub record HasOne (y : OrderYard) (number : ℕ) : Type 0 where
  pub code : y.code ≡ task_code
  pub store : 32768 ≤ y.limits.local_store
  pub phase : y.state.phase ≡ Open
  pub first : Submit
  pub input : VersionName
  pub submits : y.state.submits ≡ first ∷ []
  pub is_call : IsCall first.rec number input

pub record HasTwo (y : OrderYard) : Type 0 where
  pub code : y.code ≡ task_code
  pub store : 32768 ≤ y.limits.local_store
  pub phase : y.state.phase ≡ Open
  pub first : Submit
  pub second : Submit
  pub input : VersionName
  pub other : VersionName
  pub submits : y.state.submits ≡ first ∷ second ∷ []
  pub is_call : IsCall first.rec 0 input
  pub is_other : IsCall second.rec 1 other

-- What tasks make, and which one stops first: by themselves, one after the other.
use Rattle.std.specs.Prelude.{◌≡◌, ◌<◌, ℕ, List, [], ◌∷◌, Contains, Some, slice_get}
use Rattle.css_base.specs.declared.ending.Stop.{Stop}
use Rattle.css_record.specs.declared.task_record.TaskRecord.{TaskRecord}
use Rattle.css_record.specs.declared.version.VersionName.{VersionName}
use Rattle.css_record.specs.declared.version.VersionName.TheVariants as names
use Rattle.css_vm.specs.Code.{Code}
use Rattle.css_task.specs.Alone.{End, Outs, Halted, IsAlone}

-- a task that was submitted, with the buffers that were given with it
pub record Submit : Type 0 where
  pub rec : TaskRecord
  pub given : List (List ℕ)

-- by this code, with so many units for each task, among these submits
module _ (code : Code) (units : ℕ) (submits : List Submit) where
  mutual
    -- the task of a number comes to this end, over the values of its inputs
    pub data Ends : (number : ℕ) (end : End) → Type 0 where
      Alone : {number : ℕ} {end : End} (s : Submit) (inputs : List (List ℕ)) → Contains submits s → s.rec.number ≡ number
          → AreValues s.given s.rec.inputs.items inputs → IsAlone code s.rec inputs units end → Ends number end

    -- a version has these bytes: one of those that are given with a task, or what a task makes
    pub data IsValue : (given : List (List ℕ)) (version : VersionName) (bytes : List ℕ) → Type 0 where
      Given : {given : List (List ℕ)} {bytes : List ℕ} (place : ℕ) → slice_get given place ≡ Some bytes → IsValue given (names.Given place) bytes
      Made : {given : List (List ℕ)} {bytes : List ℕ} (task out : ℕ) (outs : List (List ℕ)) → Ends task (Outs outs)
          → slice_get outs out ≡ Some bytes → IsValue given (names.Made task out) bytes

    pub data AreValues : (given : List (List ℕ)) (versions : List VersionName) (values : List (List ℕ)) → Type 0 where
      NoMore : {given : List (List ℕ)} → AreValues given [] []
      More : {given : List (List ℕ)} {version : VersionName} {bytes : List ℕ} {versions : List VersionName} {values : List (List ℕ)}
          → IsValue given version bytes → AreValues given versions values → AreValues given (version ∷ versions) (bytes ∷ values)

  -- the first task that stops
  pub record IsFirstStop (number : ℕ) (stop : Stop) (line : ℕ) : Type 0 where
    pub stops : Ends number (Halted stop line)
    pub first : (lower : ℕ) (other : Stop) (in_line : ℕ) → lower < number → ¬ Ends lower (Halted other in_line)

-- What a worker gets of the tasks that it takes.
use Rattle.std.specs.Prelude.{◌≡◌, ◌++◌, ℕ, true, List, [], ◌∷◌}
use Rattle.css_record.specs.declared.task_record.TaskRecord.{TaskRecord}
use Rattle.css_record.specs.declared.version.VersionName.{VersionName}
use Rattle.css_record.specs.declared.version.VersionName.TheVariants as names
use Rattle.css_yard.specs.Values.{Submit, IsValue}
use Rattle.css_graph.specs.Tasks.{is_among}
use Rattle.css_history.specs.declared.entry.Entry.{Entry}
use Rattle.css_history.specs.Terms.{Terms}
use Rattle.css_history.specs.Histories.{submits}
use Rattle.css_history.specs.Rules.{IsSubmit}
use Rattle.css_history.specs.Bodies.{IsFound}
use Rattle.css_board.specs.declared.job.Job.{Job}
use Rattle.css_board.specs.declared.job.JobInput.{JobInput}
use Rattle.css_board.specs.declared.job.JobInput.TheVariants as inputs

-- a record with the same in each part
pub record IsCopy (r c : TaskRecord) : Type 0 where
  pub number : c.number ≡ r.number
  pub function : c.function ≡ r.function
  pub scalars : c.scalars.items ≡ r.scalars.items
  pub windows : c.windows.items ≡ r.windows.items
  pub stack_place : c.stack_place ≡ r.stack_place
  pub inputs : c.inputs.items ≡ r.inputs.items
  pub high : c.high ≡ r.high
  pub line : c.line ≡ r.line

module _ (b : Terms) (log : List Entry) where
  -- the history has these bytes of a version, and they are its value
  pub record IsReady (given : List (List ℕ)) (version : VersionName) (bytes : List ℕ) : Type 0 where
    pub found : IsFound log given version bytes
    pub value : IsValue b.code b.limits.task_units (submits log) given version bytes

  -- An input is the version's value, or else the version, which a task makes that stands before in the bundle.
  abbrev pub IsInput : (before : List ℕ) → (given : List (List ℕ)) → VersionName → JobInput → Type 0
  IsInput before given version (inputs.Ready bytes) = IsReady given version bytes
  IsInput before given version (inputs.Chained task out) = (version ≡ names.Made task out) × (is_among before task ≡ true)

  abbrev pub AreInputs : (before : List ℕ) → (given : List (List ℕ)) → List VersionName → List JobInput → Type 0
  AreInputs before given [] [] = Unit {0}
  AreInputs before given (version ∷ versions) (input ∷ inputs) = IsInput before given version input × AreInputs before given versions inputs
  AreInputs before given [] (input ∷ inputs) = ⊥
  AreInputs before given (version ∷ versions) [] = ⊥

  -- the record of the task of this number, and its inputs, behind the tasks that stand before in the bundle
  pub record IsJob (before : List ℕ) (n : ℕ) (job : Job) : Type 0 where
    pub submit : Submit
    pub is_submit : IsSubmit log n submit
    pub rec : IsCopy submit.rec job.rec
    pub inputs : AreInputs before submit.given submit.rec.inputs.items job.inputs.items

  -- the jobs of these tasks, in order
  abbrev pub AreJobs : (before numbers : List ℕ) → List Job → Type 0
  AreJobs before [] [] = Unit {0}
  AreJobs before (n ∷ numbers) (job ∷ jobs) = IsJob before n job × AreJobs (before ++ n ∷ []) numbers jobs
  AreJobs before [] (job ∷ jobs) = ⊥
  AreJobs before (n ∷ numbers) [] = ⊥

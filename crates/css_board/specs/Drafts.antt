-- Jobs as they are made, before it is said which tasks stand before them.
use Rattle.std.specs.Prelude.{◌≡◌, ◌+◌, ◌<◌, ℕ, List, [], ◌∷◌, length, All, Some, slice_get}
use Rattle.css_record.specs.declared.version.VersionName.{VersionName}
use Rattle.css_record.specs.declared.version.VersionName.TheVariants as names
use Rattle.css_yard.specs.Values.{Submit}
use Rattle.css_history.specs.declared.entry.Entry.{Entry}
use Rattle.css_history.specs.Histories.{submits}
use Rattle.css_history.specs.Rules.{IsSubmit}
use Rattle.css_history.specs.Bodies.{IsFound}
use Rattle.css_board.specs.declared.job.Job.{Job}
use Rattle.css_board.specs.declared.job.JobInput.{JobInput}
use Rattle.css_board.specs.declared.job.JobInput.TheVariants as inputs
use Rattle.css_board.specs.Jobs.{IsCopy}

-- a buffer that is named is given
abbrev pub IsThere : (given : List (List ℕ)) → VersionName → Type 0
IsThere given (names.Given place) = place < length given
IsThere given (names.Made task out) = Unit {0}

-- The task of this number has a place among the submits, from a first number on, and the buffers that its inputs name are given.
pub record HasPlace (first : ℕ) (log : List Entry) (n : ℕ) : Type 0 where
  pub place : ℕ
  pub number : n ≡ first + place
  pub submit : Submit
  pub is_there : slice_get (submits log) place ≡ Some submit
  pub is_number : submit.rec.number ≡ n
  pub given : All (IsThere submit.given) submit.rec.inputs.items

module _ (log : List Entry) where
  -- the history has these bytes of the version, or none
  abbrev pub IsInputDraft : (given : List (List ℕ)) → VersionName → JobInput → Type 0
  IsInputDraft given version (inputs.Ready bytes) = IsFound log given version bytes
  IsInputDraft given version (inputs.Chained task out) = (version ≡ names.Made task out) × ((bytes : List ℕ) → ¬ IsFound log given version bytes)

  abbrev pub AreInputDrafts : (given : List (List ℕ)) → List VersionName → List JobInput → Type 0
  AreInputDrafts given [] [] = Unit {0}
  AreInputDrafts given (version ∷ versions) (input ∷ inputs) = IsInputDraft given version input × AreInputDrafts given versions inputs
  AreInputDrafts given [] (input ∷ inputs) = ⊥
  AreInputDrafts given (version ∷ versions) [] = ⊥

  pub record IsDraft (n : ℕ) (job : Job) : Type 0 where
    pub submit : Submit
    pub is_submit : IsSubmit log n submit
    pub rec : IsCopy submit.rec job.rec
    pub inputs : AreInputDrafts submit.given submit.rec.inputs.items job.inputs.items

  abbrev pub AreDrafts : (numbers : List ℕ) → List Job → Type 0
  AreDrafts [] [] = Unit {0}
  AreDrafts (n ∷ numbers) (job ∷ jobs) = IsDraft n job × AreDrafts numbers jobs
  AreDrafts [] (job ∷ jobs) = ⊥
  AreDrafts (n ∷ numbers) [] = ⊥

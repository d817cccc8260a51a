-- What the history says of the values of inputs, and when an end is that of a task's body over them.
use Rattle.std.specs.Prelude.{◌≡◌, ℕ, List, [], ◌∷◌, Some, slice_get}
use Rattle.css_record.specs.declared.version.VersionName.{VersionName}
use Rattle.css_record.specs.declared.version.VersionName.TheVariants as names
use Rattle.css_task.specs.Alone.{End, Outs, Halted, IsAlone}
use Rattle.css_yard.specs.Values.{Submit}
use Rattle.css_yard.specs.Yards.{MaySubmit}
use Rattle.css_history.specs.declared.entry.Entry.{Entry}
use Rattle.css_history.specs.declared.entry.Entry.TheVariants as entries
use Rattle.css_history.specs.Terms.{Terms}
use Rattle.css_history.specs.Histories.{submits, Ended, standing}
use Rattle.css_history.specs.Rules.{IsSubmit}

-- a version has these bytes: a given buffer's, or what its task was finished with
abbrev pub IsFound : List Entry → (given : List (List ℕ)) → VersionName → (bytes : List ℕ) → Type 0
IsFound log given (names.Given place) bytes = slice_get given place ≡ Some bytes
IsFound log given (names.Made task out) bytes =
    (outs : List (List ℕ)) × (standing task log ≡ Ended (Outs outs)) × (slice_get outs out ≡ Some bytes)

abbrev pub AreFound : List Entry → (given : List (List ℕ)) → List VersionName → (values : List (List ℕ)) → Type 0
AreFound log given [] [] = Unit {0}
AreFound log given (version ∷ versions) (bytes ∷ values) = IsFound log given version bytes × AreFound log given versions values
AreFound log given [] (bytes ∷ values) = ⊥
AreFound log given (version ∷ versions) [] = ⊥

-- The task's body comes to this end, alone and over the values of its inputs.
pub record IsOfBody (b : Terms) (log : List Entry) (n : ℕ) (end : End) : Type 0 where
  pub submit : Submit
  pub is_submit : IsSubmit log n submit
  pub inputs : List (List ℕ)
  pub values : AreFound log submit.given submit.rec.inputs.items inputs
  pub alone : IsAlone b.code submit.rec inputs b.limits.task_units end

-- What an entry holds beside what a trace shows of it: a submitted task is one of the code, over inputs that fit, and ends are those of
-- the tasks' bodies.
abbrev pub IsOwn : Terms → List Entry → Entry → Type 0
IsOwn b log (entries.Submit rec given) = MaySubmit b.code b.limits (submits log) rec given
IsOwn b log (entries.Take w numbers) = Unit {0}
IsOwn b log (entries.Finish w n outs) = IsOfBody b log n (Outs outs)
IsOwn b log (entries.Stop w n stop line) = IsOfBody b log n (Halted stop line)
IsOwn b log (entries.Back w numbers) = Unit {0}
IsOwn b log (entries.Starved w) = Unit {0}
IsOwn b log entries.Close = Unit {0}

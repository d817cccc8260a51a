-- Which entry may follow a history, by the board's rules.
use Rattle.std.specs.Prelude.{◌≡◌, ◌⊎◌, ◌<◌, ◌+◌, ℕ, true, false, List, [], ◌∷◌, ◌++◌, length, All, Contains}
use Rattle.css_base.specs.declared.ending.Stop.{Stop}
use Rattle.css_record.specs.declared.task_record.TaskRecord.{TaskRecord}
use Rattle.css_record.specs.declared.version.VersionName.{VersionName}
use Rattle.css_record.specs.declared.version.VersionName.TheVariants as names
use Rattle.css_task.specs.Alone.{Halted}
use Rattle.css_yard.specs.Values.{Submit}
use Rattle.css_graph.specs.Tasks.{is_among}
use Rattle.css_history.specs.declared.entry.Entry.{Entry}
use Rattle.css_history.specs.declared.entry.Entry.TheVariants as entries
use Rattle.css_history.specs.Histories.{submits, Standing, Waiting, Ended, standing, IsFinished, held, is_closed}

-- The submit of this task is in the history.
pub record IsSubmit (log : List Entry) (n : ℕ) (s : Submit) : Type 0 where
  pub is_there : Contains (submits log) s
  pub number : s.rec.number ≡ n

-- An input is given, or made by a task that is finished or that stands before.
abbrev pub IsReady : List Entry → (before : List ℕ) → VersionName → Type 0
IsReady log before (names.Given place) = Unit {0}
IsReady log before (names.Made task out) = IsFinished task log ⊎ (is_among before task ≡ true)

abbrev pub AreReady : List Entry → (before : List ℕ) → TaskRecord → Type 0
AreReady log before r = All (IsReady log before) r.inputs.items

-- A submit has the next number, and nothing is submitted after close.
pub record IsNext (first : ℕ) (log : List Entry) (r : TaskRecord) : Type 0 where
  pub number : r.number ≡ first + length (submits log)
  pub is_open : is_closed log ≡ false

-- A task may stand after these in a take: it was submitted, is neither out nor finished nor stopped, isn't one of them, stands below
-- every stop so far, and its inputs are ready after them.
pub record MayStand (log : List Entry) (before : List ℕ) (n : ℕ) : Type 0 where
  pub submit : Submit
  pub is_submit : IsSubmit log n submit
  pub waits : standing n log ≡ Waiting
  pub apart : is_among before n ≡ false
  pub below : (other : ℕ) (stop : Stop) (line : ℕ) → standing other log ≡ Ended (Halted stop line) → n < other
  pub ready : AreReady log before submit.rec

abbrev pub MayTake : List Entry → (before numbers : List ℕ) → Type 0
MayTake log before [] = Unit {0}
MayTake log before (n ∷ numbers) = MayStand log before n × MayTake log (before ++ n ∷ []) numbers

-- A worker may say how a task ended: it holds it, and the task's made inputs are finished.
pub record MayEnd (log : List Entry) (worker n : ℕ) : Type 0 where
  pub submit : Submit
  pub is_submit : IsSubmit log n submit
  pub mine : is_among (held worker log) n ≡ true
  pub ready : AreReady log [] submit.rec

-- The rules. A worker that gives back names all that it holds, in the order in which it took it.
abbrev pub Follows : (first : ℕ) → List Entry → Entry → Type 0
Follows first log (entries.Submit rec given) = IsNext first log rec
Follows first log (entries.Take w numbers) = MayTake log [] numbers
Follows first log (entries.Finish w n outs) = MayEnd log w n
Follows first log (entries.Stop w n stop line) = MayEnd log w n
Follows first log (entries.Back w numbers) = numbers ≡ held w log
Follows first log (entries.Starved w) = Unit {0}
Follows first log entries.Close = Unit {0}

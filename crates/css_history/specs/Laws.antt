-- The laws of legal histories, in which no board stands.
use Rattle.std.specs.Prelude.{◌≡◌, ◌+◌, ℕ, true, false, List, [], ◌∷◌, ◌++◌, Some, slice_get, Contains}
use Rattle.css_base.specs.declared.ending.Stop.{Stop}
use Rattle.css_record.specs.declared.version.VersionName.{VersionName}
use Rattle.css_record.specs.declared.version.VersionName.TheVariants as names
use Rattle.css_task.specs.Alone.{End, Outs}
use Rattle.css_yard.specs.Values.{Submit, Ends, IsValue, IsFirstStop}
use Rattle.css_yard.specs.Submits.{AreSubmitted}
use Rattle.css_seen.specs.Facts.{Remains}
use Rattle.css_history.specs.declared.entry.Entry.{Entry}
use Rattle.css_history.specs.declared.entry.Entry.TheVariants as entries
use Rattle.css_history.specs.Terms.{Terms}
use Rattle.css_history.specs.Histories.{maker, submits, Waiting, Ended, standing, held, is_closed, has_starved}
use Rattle.css_history.specs.Rules.{IsSubmit}
use Rattle.css_history.specs.Bodies.{IsFound}
use Rattle.css_history.specs.Legal.{MayFollow, Legal}
use Rattle.css_history.specs.Seats.{AreInTurn, MayTell, IsFirst}

module _ (b : Terms) where
  -- each task that came to an end came to its own, and what is found of a version is its value
  pub record ValuesAreOwn : Type 0 where
    pub submitted : (log : List Entry) → Legal b log → AreSubmitted b.code b.limits (submits log)
    pub ends : (log : List Entry) → Legal b log → (n : ℕ) (end : End) → standing n log ≡ Ended end → Ends b.code b.limits.task_units (submits log) n end
    pub values : (log : List Entry) → Legal b log → (given : List (List ℕ)) (version : VersionName) (bytes : List ℕ) → IsFound log given version bytes
        → IsValue b.code b.limits.task_units (submits log) given version bytes

  abbrev pub StopsAreFirst : Type 0
  StopsAreFirst = (log : List Entry) → Legal b log → (n : ℕ) (stop : Stop) (line : ℕ) → IsFirst log n stop line
      → IsFirstStop b.code b.limits.task_units (submits log) n stop line

  -- worker w has seat w + 1, and main seat 0
  pub record SeatsKnow : Type 0 where
    -- a worker: what it holds, in which order
    pub holds : (w : ℕ) (numbers : List ℕ) → Remains maker (MayFollow b) (w + 1) (λ log. held w log ≡ numbers)
    -- that it may enter an end of a task
    pub may_tell : (w n : ℕ) (end : End) → Remains maker (MayFollow b) (w + 1) (λ log. MayTell b log w n end)
    -- that it hasn't starved
    pub well_fed : (w : ℕ) → Remains maker (MayFollow b) (w + 1) (λ log. has_starved w log ≡ false)
    -- main: what was submitted, and that nothing is closed
    pub submitted : (tasks : List Submit) → Remains maker (MayFollow b) 0 (λ log. submits log ≡ tasks)
    pub is_open : Remains maker (MayFollow b) 0 (λ log. is_closed log ≡ false)
    -- anybody: that a task was submitted, that it came to an end, that a version has a value, and that tasks may be run in an order
    pub is_submit : (seat n : ℕ) (s : Submit) → Remains maker (MayFollow b) seat (λ log. IsSubmit log n s)
    pub has_ended : (seat n : ℕ) (end : End) → Remains maker (MayFollow b) seat (λ log. standing n log ≡ Ended end)
    pub is_found : (seat : ℕ) (given : List (List ℕ)) (version : VersionName) (bytes : List ℕ) → Remains maker (MayFollow b) seat (λ log. IsFound log given version bytes)
    pub in_turn : (seat : ℕ) (before numbers : List ℕ) → Remains maker (MayFollow b) seat (λ log. AreInTurn log before numbers)
    -- A worker's own entries. Once it has taken tasks, it may run them in this order.
    pub taken : (log : List Entry) (w : ℕ) (numbers : List ℕ) → Legal b log → MayFollow b log (entries.Take w numbers) → AreInTurn (log ++ entries.Take w numbers ∷ []) [] numbers
    -- Once it has finished the first of those that it is to run, it may run the rest.
    pub rest : (log : List Entry) (w n : ℕ) (outs : List (List ℕ)) (numbers : List ℕ) → Legal b log → MayFollow b log (entries.Finish w n outs)
        → AreInTurn log [] (n ∷ numbers) → AreInTurn (log ++ entries.Finish w n outs ∷ []) [] numbers

-- What the seats of a board know of its history.
use Rattle.std.specs.Prelude.{◌≡◌, ◌<◌, ℕ, false, List, [], ◌∷◌, ◌++◌, Contains}
use Rattle.css_base.specs.declared.ending.Stop.{Stop}
use Rattle.css_task.specs.Alone.{End, Halted}
use Rattle.css_yard.specs.Values.{Submit}
use Rattle.css_graph.specs.Tasks.{is_among}
use Rattle.css_history.specs.declared.entry.Entry.{Entry}
use Rattle.css_history.specs.Terms.{Terms}
use Rattle.css_history.specs.Histories.{submits, Ended, standing, IsFinished}
use Rattle.css_history.specs.Rules.{IsSubmit, AreReady, MayEnd}
use Rattle.css_history.specs.Bodies.{IsOfBody}

-- After these, a task may be run: it was submitted, isn't one of them, and its inputs are ready after them.
pub record IsInTurn (log : List Entry) (before : List ℕ) (n : ℕ) : Type 0 where
  pub submit : Submit
  pub is_submit : IsSubmit log n submit
  pub apart : is_among before n ≡ false
  pub ready : AreReady log before submit.rec

-- after these, these may be run, in this order
abbrev pub AreInTurn : List Entry → (before numbers : List ℕ) → Type 0
AreInTurn log before [] = Unit {0}
AreInTurn log before (n ∷ numbers) = IsInTurn log before n × AreInTurn log (before ++ n ∷ []) numbers

-- the right to enter an end of a task: by the rules, and since it is its body's
abbrev pub MayTell : Terms → List Entry → (worker n : ℕ) → End → Type 0
MayTell b log w n end = MayEnd log w n × IsOfBody b log n end

-- A task stopped, and all tasks of the history below it are finished.
pub record IsFirst (log : List Entry) (n : ℕ) (stop : Stop) (line : ℕ) : Type 0 where
  pub stops : standing n log ≡ Ended (Halted stop line)
  pub lower : (s : Submit) → Contains (submits log) s → s.rec.number < n → IsFinished s.rec.number log

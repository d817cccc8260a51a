-- What the board has at hand of each task, which is what the history says.
use Rattle.std.specs.Prelude.{◌≡◌, ◌≢◌, ◌+◌, ◌<◌, ◌≤◌, ℕ, List, [], ◌∷◌, length, Option, Some, None, slice_get, slice_set, slice_index_or}
use Rattle.css_base.specs.declared.ending.Stop.{Stop}
use Rattle.css_record.specs.declared.version.VersionName.{VersionName}
use Rattle.css_record.specs.declared.version.VersionName.TheVariants as names
use Rattle.css_task.specs.Alone.{End, Outs, Halted}
use Rattle.css_yard.specs.Values.{Submit}
use Rattle.css_history.specs.declared.entry.Entry.{Entry}
use Rattle.css_history.specs.declared.entry.Entry.TheVariants as entries
use Rattle.css_history.specs.Histories.{submits, Waiting, Ended, named, standing, IsFinished}
use Rattle.css_board.specs.declared.cell.Cell.{Cell}

-- the end that an entry tells
abbrev pub told_by : Entry → Option End
told_by (entries.Submit rec given) = None
told_by (entries.Take w numbers) = None
told_by (entries.Finish w n outs) = Some (Outs outs)
told_by (entries.Stop w n stop line) = Some (Halted stop line)
told_by (entries.Back w numbers) = None
told_by (entries.Starved w) = None
told_by entries.Close = None

-- it tells that this task came to an end at this worker
abbrev pub IsEndBy : (worker n : ℕ) → Entry → Type 0
IsEndBy w n (entries.Submit rec given) = ⊥
IsEndBy w n (entries.Take v numbers) = ⊥
IsEndBy w n (entries.Finish v m outs) = (v ≡ w) × (m ≡ n)
IsEndBy w n (entries.Stop v m stop line) = (v ≡ w) × (m ≡ n)
IsEndBy w n (entries.Back v numbers) = ⊥
IsEndBy w n (entries.Starved v) = ⊥
IsEndBy w n entries.Close = ⊥

abbrev pub entry_at : List Entry → Option ℕ → Option Entry
entry_at log None = None
entry_at log (Some place) = slice_get log place

-- the entry at which a task came to its end
abbrev pub end_at : List Entry → Cell → Option Entry
end_at log c = entry_at log c.end

abbrev pub IsFinish : Option Entry → Type 0
IsFinish (Some (entries.Finish w n outs)) = Unit {0}
IsFinish _ = ⊥

abbrev pub IsFinishedCell : List Entry → Cell → Type 0
IsFinishedCell log c = IsFinish (end_at log c)

abbrev pub no_cell : Cell
no_cell = record { submit = 0; end = None }

abbrev pub with_end : List Cell → (index place : ℕ) → List Cell
with_end cells index place = slice_set cells index (record { submit = (slice_index_or cells index no_cell).submit; end = Some place })

-- it says where the task came to its end
abbrev pub IsEnd : List Entry → (n : ℕ) → Option ℕ → Type 0
IsEnd log n None = (end : End) → standing n log ≢ Ended end
IsEnd log n (Some place) = (e : Entry) × (end : End) × (slice_get log place ≡ Some e) × (told_by e ≡ Some end) × (standing n log ≡ Ended end) × (named e ≡ n ∷ [])

pub record IsCell (log : List Entry) (k n : ℕ) (c : Cell) : Type 0 where
  pub task : Submit
  pub task_is : slice_get (submits log) k ≡ Some task
  pub submit_is : slice_get log c.submit ≡ Some (entries.Submit task.rec task.given)
  pub end_is : IsEnd log n c.end

-- the k-th task has number first + k
pub record AreCells (first : ℕ) (log : List Entry) (cells : List Cell) : Type 0 where
  pub all : length cells ≡ length (submits log)
  pub each : (k : ℕ) (c : Cell) → slice_get cells k ≡ Some c → IsCell log k (first + k) c

-- so many of the first tasks are finished, and the one behind them isn't
pub record IsFront (first : ℕ) (log : List Entry) (front : ℕ) : Type 0 where
  pub within : front ≤ length (submits log)
  pub finished : (k : ℕ) → k < front → IsFinished (first + k) log
  pub unfinished : front < length (submits log) → ¬ IsFinished (first + front) log

-- the cells, and each task that was named has one
pub record AreKept (first : ℕ) (log : List Entry) (cells : List Cell) : Type 0 where
  pub cells_are : AreCells first log cells
  pub named : (n : ℕ) → standing n log ≢ Waiting → (k : ℕ) × (k < length cells) × (n ≡ first + k)

-- the entry of a cell's end is a finish with these
abbrev pub IsFinishedWith : List Entry → Cell → (outs : List (List ℕ)) → Type 0
IsFinishedWith log c outs = (e : Entry) × (end_at log c ≡ Some e) × (told_by e ≡ Some (Outs outs))

-- a version that a task makes has these bytes
abbrev pub IsFoundMade : List Entry → VersionName → (bytes : List ℕ) → Type 0
IsFoundMade log (names.Given place) bytes = ⊥
IsFoundMade log (names.Made task out) bytes =
    (outs : List (List ℕ)) × (standing task log ≡ Ended (Outs outs)) × (slice_get outs out ≡ Some bytes)

-- a stop of the task of this number, by the entry of a cell's end
abbrev pub IsStopOf : List Entry → Cell → (n : ℕ) → Stop → (line : ℕ) → Type 0
IsStopOf log c n stop line = (w : ℕ) × (end_at log c ≡ Some (entries.Stop w n stop line))

-- What contracts see of a board, and what it keeps beside its history.
use Rattle.std.specs.Prelude.{◌≡◌, ◌+◌, ◌<◌, ◌≤◌, ◌^◌, ℕ, Bool, List, length, Contains}
use Rattle.css_base.specs.Limits.{IsInRange}
use Rattle.css_graph.specs.Tasks.{TaskGraph}
use Rattle.css_yard.specs.Values.{Submit}
use Rattle.css_history.specs.declared.entry.Entry.{Entry}
use Rattle.css_history.specs.declared.fixed.Fixed.{Fixed}
use Rattle.css_history.specs.Histories.{submits, IsFinished, is_closed, is_starved}
use Rattle.css_history.specs.Legal.{IsLegal}
use Rattle.css_board.specs.declared.cell.Cell.{Cell}
use Rattle.css_board.specs.declared.job.Job.{Job}
use Rattle.css_board.specs.declared.post.Post.{Post}
use Rattle.css_board.specs.declared.taken.Taken.{Taken}
use Rattle.css_board.specs.declared.taken.Taken.TheVariants.{Bundle, Nothing}
use Rattle.css_board.specs.Graphs.{graph_of}
use Rattle.css_board.specs.Cells.{AreCells, IsFront}
use Rattle.css_board.specs.Posts.{one_if_not, coming, ArePosts}

-- a board: what no entry changes, and its history
pub record State : Type 0 where
  pub fixed : Fixed
  pub history : List Entry

-- the board's graph
abbrev pub graph : State → TaskGraph
graph b = graph_of b.fixed.limits.workers b.history

-- each task is finished
abbrev pub AreAllFinished : List Entry → Type 0
AreAllFinished log = (s : Submit) → Contains (submits log) s → IsFinished s.rec.number log

-- The parts of a board say what its history says, and there is room for all entries that are to come.
pub record IsBoard (f : Fixed) (log : List Entry) (cells : List Cell) (posts : List Post) (g : TaskGraph) (front : ℕ) (closed starved : Bool) (room : ℕ) : Type 0 where
  pub limits : IsInRange f.limits
  pub legal : IsLegal f log
  pub graph_is : g ≡ graph_of f.limits.workers log
  pub cells_are : AreCells f.first log cells
  pub posts_are : ArePosts f.limits.workers log posts
  pub front_is : IsFront f.first log front
  pub closed_is : closed ≡ is_closed log
  pub starved_is : starved ≡ is_starved log
  pub within : length log + coming posts + one_if_not closed ≤ room
  pub small : length log + coming posts + one_if_not closed < 2 ^ 62

-- what is said of the jobs of a bundle, and of there being none
abbrev pub IfBundle : Taken → (List Job → Type 0) → Type 0
IfBundle (Bundle jobs) P = P jobs.items
IfBundle Nothing P = Unit {0}

abbrev pub IfNothing : Taken → Type 0 → Type 0
IfNothing (Bundle jobs) P = Unit {0}
IfNothing Nothing P = P

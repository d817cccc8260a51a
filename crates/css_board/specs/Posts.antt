-- What the board has at hand of each worker, which is what the history says.
use Rattle.std.specs.Prelude.{◌≡◌, ◌+◌, ℕ, Bool, List, length, Some, slice_get, if◌then◌else◌}
use Rattle.std.specs.List.{sum_by}
use Rattle.std.proofs.Common.{Vec, Global}
use Rattle.css_history.specs.declared.entry.Entry.{Entry}
use Rattle.css_history.specs.Histories.{held, has_starved}
use Rattle.css_board.specs.declared.post.Post.{Post}

abbrev pub one_if_not : Bool → ℕ
one_if_not b = if b then 0 else 1

-- how many entries a worker is still to make at most: one for each task that it holds, and that it had no memory
abbrev pub coming_of : Post → ℕ
coming_of p = length p.held.items + one_if_not p.starved

-- the post, with other tasks that are held
abbrev pub has_held : Post → Vec ℕ Global → Post
has_held p held = record p { held = held }

abbrev pub coming : List Post → ℕ
coming posts = sum_by coming_of posts

pub record IsPost (log : List Entry) (w : ℕ) (p : Post) : Type 0 where
  pub held_is : p.held.items ≡ held w log
  pub starved_is : p.starved ≡ has_starved w log

pub record ArePosts (workers : ℕ) (log : List Entry) (posts : List Post) : Type 0 where
  pub all : length posts ≡ workers
  pub each : (w : ℕ) (p : Post) → slice_get posts w ≡ Some p → IsPost log w p

use Rattle.std.proofs.Common.{◌≡◌, ◌≤◌, false, [], length, All, vec_capacity}
use Rattle.css_board.specs.declared.post.Post.{Post}
use Rattle.css_board.specs.Posts.{coming}
use Rattle.css_board.proofs.post.posts_of.Given as goal

abbrev pub invariant-loop : goal.invariant-loop
invariant-loop l = (length l.posts.items ≡ l.counter) × (l.workers ≤ vec_capacity l.posts) × All (λ (p : Post). (p.held.items ≡ []) × (p.starved ≡ false)) l.posts.items × (coming l.posts.items ≡ l.counter)

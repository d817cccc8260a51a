use Rattle.std.proofs.Common.{◌≡◌, ◌+◌, drop}
use Rattle.css_board.specs.Posts.{coming}
use Rattle.css_board.proofs.post.coming.Given as goal

abbrev pub invariant-loop-post : goal.invariant-loop-post
invariant-loop-post l = l.sum + coming (drop l.post-index l.posts) ≡ coming l.posts

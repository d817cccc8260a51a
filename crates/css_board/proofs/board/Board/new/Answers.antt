use Rattle.std.proofs.Common.{◌≡◌, false, [], vec_capacity}
use Rattle.css_yard.proofs.Lists.{all_at}
use Rattle.css_board.specs.declared.post.Post.{Post}
use Rattle.css_board.proofs.Boards.{board_new}
use Rattle.css_board.proofs.board.Board.new.Goals as goal

pub invariant_of-result : goal.invariant_of-result
invariant_of-result c =
    let posts = c.in_ok-posts.posts.items in
    rw (c.in_ok-history.ensures.items, c.new.ensures.items)
    (board_new (record { first = c.args.first; code = c.args.code; limits = c.args.limits.now }) posts c.new-2.result (vec_capacity c.in_ok-history.history) c.requires.limits c.new-2.ensures c.in_ok-posts.ensures.length
    (λ w p at. all_at (λ (p : Post). (p.held.items ≡ []) × (p.starved ≡ false)) posts w p at c.in_ok-posts.ensures.each) c.in_ok-posts.ensures.coming c.in_ok-history.ensures.capacity)

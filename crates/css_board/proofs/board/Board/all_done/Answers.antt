use Rattle.std.proofs.Common.{vec_capacity, arith}
use Rattle.css_board.proofs.Boards.{done_is}
use Rattle.css_board.proofs.board.Board.all_done.Goals as goal

pub returns : goal.returns
returns c =
    let i = c.self.inside in
    rw (← c.self.view_is) (done_is i.fixed i.history.items i.cells.items i.posts.items i.graph i.front i.closed i.starved (vec_capacity i.history) c.self.invariant c.len.result (let own = i.cells.ok.0 in let len = c.len.ensures in omega (arith, own, len)))

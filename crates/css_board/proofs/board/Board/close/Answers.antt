use Rattle.css_board.specs.Boards.{State}
use Rattle.std.proofs.Common.{◌≡◌, false, vec_capacity, sym, subst}
use Rattle.css_history.specs.Histories.{is_closed}
use Rattle.css_board.proofs.Boards.{board_close}
use Rattle.css_board.proofs.board.Board.close.Goals as goal

pub invariant_of-self : goal.invariant_of-self
invariant_of-self c =
    let i = c.self.inside in
    let open_is : is_closed i.history.items ≡ false = subst (λ (s : State). is_closed s.history ≡ false) (sym c.self.view_is) c.requires.open in
    rw (c.push_reserved.ensures.items, c.push_reserved.ensures.capacity) (board_close i.fixed i.history.items i.cells.items i.posts.items i.graph i.front i.closed i.starved (vec_capacity i.history) c.self.invariant open_is)

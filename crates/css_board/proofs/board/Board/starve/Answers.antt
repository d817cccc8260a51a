use Rattle.css_board.specs.Boards.{State}
use Rattle.std.proofs.Common.{◌≡◌, false, vec_capacity, arith, sym, subst}
use Rattle.css_history.specs.Histories.{has_starved}
use Rattle.css_board.proofs.Boards.{board_starve, room_left, fed_some}
use Rattle.css_board.proofs.board.Board.starve.Goals as goal

pub push_reserved-requires : goal.push_reserved-requires
push_reserved-requires c =
    let i = c.self.inside in
    let first : has_starved c.args.worker i.history.items ≡ false = subst (λ (s : State). has_starved c.args.worker s.history ≡ false) (sym c.self.view_is) c.requires.first in
    let p = c.set_starved.ensures.0 in
    let at = c.set_starved.ensures.1 in
    let room = room_left i.fixed i.history.items i.cells.items i.posts.items i.graph i.front i.closed i.starved (vec_capacity i.history) c.self.invariant c.args.worker p at (fed_some i.fixed i.history.items i.cells.items i.posts.items i.graph i.front i.closed i.starved (vec_capacity i.history) c.self.invariant c.args.worker p at first) in
    let own = i.history.ok.0 in
    omega (arith, room, own)

pub invariant_of-self : goal.invariant_of-self
invariant_of-self c =
    let i = c.self.inside in
    let first : has_starved c.args.worker i.history.items ≡ false = subst (λ (s : State). has_starved c.args.worker s.history ≡ false) (sym c.self.view_is) c.requires.first in
    rw (c.push_reserved.ensures.items, c.push_reserved.ensures.capacity, c.set_starved.ensures.2)
    (board_starve i.fixed i.history.items i.cells.items i.posts.items i.graph i.front i.closed i.starved (vec_capacity i.history) c.self.invariant c.args.worker c.set_starved.ensures.0 c.set_starved.ensures.1 first)

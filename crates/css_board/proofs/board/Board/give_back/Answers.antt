use Rattle.css_board.specs.Boards.{State}
use Rattle.std.proofs.Common.{◌≢◌, [], vec_capacity, arith, ap, refl, sym, subst}
use Rattle.css_history.specs.Histories.{held}
use Rattle.css_board.specs.Posts.{has_held}
use Rattle.css_board.proofs.Boards.{board_back, room_left, holds_some, held_out}
use Rattle.css_board.proofs.board.Board.give_back.Goals as goal

pub back-requires : goal.back-requires
back-requires c =
    let i = c.self.inside in
    let taken = c.replace_held-numbers.ensures in
    rw (c.as_slice.ensures.value, taken.2) (held_out i.fixed i.history.items i.cells.items i.posts.items i.graph i.front i.closed i.starved (vec_capacity i.history) c.self.invariant c.args.worker taken.0 taken.1)

pub push_reserved-requires : goal.push_reserved-requires
push_reserved-requires c =
    let i = c.self.inside in
    let some : held c.args.worker i.history.items ≢ [] = subst (λ (s : State). held c.args.worker s.history ≢ []) (sym c.self.view_is) c.requires.something in
    let taken = c.replace_held-numbers.ensures in
    let room = room_left i.fixed i.history.items i.cells.items i.posts.items i.graph i.front i.closed i.starved (vec_capacity i.history) c.self.invariant c.args.worker taken.0 taken.1 (holds_some i.fixed i.history.items i.cells.items i.posts.items i.graph i.front i.closed i.starved (vec_capacity i.history) c.self.invariant c.args.worker taken.0 taken.1 some) in
    let own = i.history.ok.0 in
    omega (arith, room, own)

pub invariant_of-self : goal.invariant_of-self
invariant_of-self c =
    let i = c.self.inside in
    let some : held c.args.worker i.history.items ≢ [] = subst (λ (s : State). held c.args.worker s.history ≢ []) (sym c.self.view_is) c.requires.something in
    let taken = c.replace_held-numbers.ensures in
    rw (c.push_reserved.ensures.items, c.push_reserved.ensures.capacity, taken.3, c.new-2.ensures)
    (board_back i.fixed i.history.items i.cells.items i.posts.items i.graph i.front i.closed i.starved (vec_capacity i.history) c.self.invariant c.args.worker taken.0 (has_held taken.0 c.new.result) c.replace_held-numbers.result.items
    c.back.new.self taken.1 c.new.ensures.items refl some (ap (λ v. v.items) taken.2) (rw c.as_slice.ensures.value at c.back.ensures))

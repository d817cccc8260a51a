use Rattle.css_board.specs.Boards.{State}
use Rattle.std.proofs.Common.{◌≡◌, ◌+◌, ◌-◌, ℕ, length, vec_capacity, arith, ap, sym, ◌∙◌, subst}
use Rattle.css_history.specs.Terms.{terms_of}
use Rattle.css_history.specs.Rules.{MayEnd}
use Rattle.css_history.specs.Legal.{MayFollow}
use Rattle.css_board.specs.Cells.{with_end}
use Rattle.css_board.proofs.Boards.{board_end, end_of_task, room_left, place_in, ends_some, out_is}
use Rattle.css_board.proofs.board.Board.end.Goals as goal

pub tell_end-requires-clause-out : goal.tell_end-requires-clause-out
tell_end-requires-clause-out c =
    let i = c.self.inside in
    let may : MayFollow (terms_of i.fixed) i.history.items c.args.entry = subst (λ (s : State). MayFollow (terms_of s.fixed) s.history c.args.entry) (sym c.self.view_is) c.requires.may in
    let ends : MayEnd i.history.items c.args.worker c.args.number = end_of_task i.fixed i.history.items i.cells.items i.posts.items i.graph i.front i.closed i.starved (vec_capacity i.history) c.self.invariant c.args.entry c.args.worker c.args.number c.requires.end may in
    out_is i.fixed i.history.items i.cells.items i.posts.items i.graph i.front i.closed i.starved (vec_capacity i.history) c.self.invariant c.args.worker c.args.number ends

pub tell_end-requires-clause-end : goal.tell_end-requires-clause-end
tell_end-requires-clause-end c = (c.args.worker, c.requires.end)

pub overflow_sub-number : goal.overflow_sub-number
overflow_sub-number c =
    let i = c.self.inside in
    let may : MayFollow (terms_of i.fixed) i.history.items c.args.entry = subst (λ (s : State). MayFollow (terms_of s.fixed) s.history c.args.entry) (sym c.self.view_is) c.requires.may in
    let ends : MayEnd i.history.items c.args.worker c.args.number = end_of_task i.fixed i.history.items i.cells.items i.posts.items i.graph i.front i.closed i.starved (vec_capacity i.history) c.self.invariant c.args.entry c.args.worker c.args.number c.requires.end may in
    let place = place_in i.fixed i.history.items i.cells.items i.posts.items i.graph i.front i.closed i.starved (vec_capacity i.history) c.self.invariant c.args.worker c.args.number ends in
    omega (arith, place.1)

pub set_end-requires : goal.set_end-requires
set_end-requires c =
    let i = c.self.inside in
    let may : MayFollow (terms_of i.fixed) i.history.items c.args.entry = subst (λ (s : State). MayFollow (terms_of s.fixed) s.history c.args.entry) (sym c.self.view_is) c.requires.may in
    let ends : MayEnd i.history.items c.args.worker c.args.number = end_of_task i.fixed i.history.items i.cells.items i.posts.items i.graph i.front i.closed i.starved (vec_capacity i.history) c.self.invariant c.args.entry c.args.worker c.args.number c.requires.end may in
    let place = place_in i.fixed i.history.items i.cells.items i.posts.items i.graph i.front i.closed i.starved (vec_capacity i.history) c.self.invariant c.args.worker c.args.number ends in
    omega (arith, place.1, place.2)

pub push_reserved-requires : goal.push_reserved-requires
push_reserved-requires c =
    let i = c.self.inside in
    let may : MayFollow (terms_of i.fixed) i.history.items c.args.entry = subst (λ (s : State). MayFollow (terms_of s.fixed) s.history c.args.entry) (sym c.self.view_is) c.requires.may in
    let ends : MayEnd i.history.items c.args.worker c.args.number = end_of_task i.fixed i.history.items i.cells.items i.posts.items i.graph i.front i.closed i.starved (vec_capacity i.history) c.self.invariant c.args.entry c.args.worker c.args.number c.requires.end may in
    let p = c.let_go.ensures.0 in
    let at = c.let_go.ensures.2 in
    let room = room_left i.fixed i.history.items i.cells.items i.posts.items i.graph i.front i.closed i.starved (vec_capacity i.history) c.self.invariant c.args.worker p at (ends_some i.fixed i.history.items i.cells.items i.posts.items i.graph i.front i.closed i.starved (vec_capacity i.history) c.self.invariant c.args.worker c.args.number p at ends) in
    let own = i.history.ok.0 in
    omega (arith, room, own)

pub invariant_of-self : goal.invariant_of-self
invariant_of-self c =
    let i = c.self.inside in
    let may : MayFollow (terms_of i.fixed) i.history.items c.args.entry = subst (λ (s : State). MayFollow (terms_of s.fixed) s.history c.args.entry) (sym c.self.view_is) c.requires.may in
    let ends : MayEnd i.history.items c.args.worker c.args.number = end_of_task i.fixed i.history.items i.cells.items i.posts.items i.graph i.front i.closed i.starved (vec_capacity i.history) c.self.invariant c.args.entry c.args.worker c.args.number c.requires.end may in
    let place = place_in i.fixed i.history.items i.cells.items i.posts.items i.graph i.front i.closed i.starved (vec_capacity i.history) c.self.invariant c.args.worker c.args.number ends in
    let k : ℕ = c.args.number - i.fixed.first in
    let n_is : c.args.number ≡ i.fixed.first + k = omega (arith, place.1) in
    let gone = c.let_go.ensures in
    let place_is : c.len-place.result ≡ length i.history.items = (let own = i.history.ok.0 in let len = c.len-place.ensures in omega (arith, own, len)) in
    let ended = c.set_end.ensures ∙ ap (λ (n : ℕ). with_end i.cells.items k n) place_is in
    let entered = c.push_reserved.ensures.items in
    rw (entered, c.push_reserved.ensures.capacity, gone.5, ended)
    (board_end i.fixed i.history.items i.cells.items i.posts.items i.graph i.front i.closed i.starved (vec_capacity i.history) c.self.invariant c.args.entry c.args.worker c.args.number k gone.0 gone.1 c.tell_end.new.graph c.front_from-self-inside.result c.deref.result.now c.deref-2.result.now c.requires.end may n_is gone.2 gone.3 gone.4 c.tell_end.ensures
    (c.deref.ensures.value ∙ entered) (c.deref-2.ensures.value ∙ ended)
    c.front_from-self-inside.ensures.from c.front_from-self-inside.ensures.within c.front_from-self-inside.ensures.finished c.front_from-self-inside.ensures.front)

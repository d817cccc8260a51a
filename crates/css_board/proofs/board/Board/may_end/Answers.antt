use Rattle.std.proofs.Common.{◌≡◌, ℕ, List, vec_capacity, true, subst}
use Rattle.css_graph.specs.Tasks.{is_among}
use Rattle.css_board.proofs.Lists.{among_at}
use Rattle.css_board.proofs.Boards.{kept_is, holds_it, held_place, may_end_by}
use Rattle.css_board.proofs.board.Board.may_end.Goals as goal

pub has_ready_inputs-requires-clause-kept : goal.has_ready_inputs-requires-clause-kept
has_ready_inputs-requires-clause-kept c =
    let i = c.self.inside in
    rw (c.deref-2.ensures.value, c.deref-3.ensures.value) (kept_is i.fixed i.history.items i.cells.items i.posts.items i.graph i.front i.closed i.starved (vec_capacity i.history) c.self.invariant)

pub has_ready_inputs-requires-clause-place : goal.has_ready_inputs-requires-clause-place
has_ready_inputs-requires-clause-place c =
    let i = c.self.inside in
    let cases = (c.if-not-contains.ensures {u = tt}).cases in
    let by = rw c.deref.ensures.value at c.held_by.ensures in
    let among : is_among c.held_by.result.now c.args.number ≡ true = among_at c.held_by.result.now c.args.number cases.0 cases.1 (cases.2 0) in
    let mine = holds_it i.fixed i.history.items i.cells.items i.posts.items i.graph i.front i.closed i.starved (vec_capacity i.history) c.self.invariant c.args.worker c.args.number by.0 by.1 (subst (λ (l : List ℕ). is_among l c.args.number ≡ true) by.2 among) in
    rw c.deref-2.ensures.value (held_place i.fixed i.history.items i.cells.items i.posts.items i.graph i.front i.closed i.starved (vec_capacity i.history) c.self.invariant c.args.worker c.args.number mine)

pub returns : goal.returns
returns c =
    let i = c.self.inside in
    let cases = (c.if-not-contains.ensures {u = tt}).cases in
    let by = rw c.deref.ensures.value at c.held_by.ensures in
    let among : is_among c.held_by.result.now c.args.number ≡ true = among_at c.held_by.result.now c.args.number cases.0 cases.1 (cases.2 0) in
    let mine = holds_it i.fixed i.history.items i.cells.items i.posts.items i.graph i.front i.closed i.starved (vec_capacity i.history) c.self.invariant c.args.worker c.args.number by.0 by.1 (subst (λ (l : List ℕ). is_among l c.args.number ≡ true) by.2 among) in
    let ready = rw c.deref-2.ensures.value at c.has_ready_inputs.ensures in
    rw (← c.self.view_is) (may_end_by i.fixed i.history.items i.cells.items i.posts.items i.graph i.front i.closed i.starved (vec_capacity i.history) c.self.invariant c.args.worker c.args.number ready.0 c.has_ready_inputs.result mine ready.1 ready.2)

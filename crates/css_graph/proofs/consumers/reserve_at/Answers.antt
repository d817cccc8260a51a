use Rattle.std.proofs.Common.{refl, ◌≡◌, ◌<◌, ◌≤◌, ℕ, ◌+◌, Bool, true, false, List, ◌∷◌, [], ◌++◌, eqb, length, get_or, take, drop, map, vec_len, vec_capacity, ap, sym, ◌∙◌, subst, arith, rules}
use Rattle.css_graph.specs.declared.consumers.ConsumerList.{ConsumerList}
use Rattle.css_graph.specs.Tasks.{is_among}
use Rattle.css_graph.specs.Nodes.{IsAscending}
use Rattle.css_graph.specs.Consumers.{line_of, consumers_at, HaveRoom, with_each}
use Rattle.css_graph.proofs.ConsumerLists.{same_lines_set, room_more}
use Rattle.css_graph.proofs.consumers.reserve_at.Goals as goal

pub returns-in_err-reserve-in-Some-clause-kept : goal.returns-in_err-reserve-in-Some-clause-kept
returns-in_err-reserve-in-Some-clause-kept c =
    let d = c.index-lists-at.result in
    let x = get_or c.args.lists.now c.in-Some.at d in
    let list : ConsumerList = record { number = x.number; consumers = c.reserve.new.self } in
    let items = c.reserve.ensures.items in
    same_lines_set c.args.lists.now c.in-Some.at list d (ap (λ (v : List ℕ). let line : ℕ × List ℕ = (x.number, v) in line) items)

pub returns-in_ok-reserve-in-Some-clause-kept : goal.returns-in_ok-reserve-in-Some-clause-kept
returns-in_ok-reserve-in-Some-clause-kept c =
    let d = c.index-lists-at.result in
    let x = get_or c.args.lists.now c.in-Some.at d in
    let list : ConsumerList = record { number = x.number; consumers = c.reserve.new.self } in
    let items = c.reserve.ensures.items in
    same_lines_set c.args.lists.now c.in-Some.at list d (ap (λ (v : List ℕ). let line : ℕ × List ℕ = (x.number, v) in line) items)

pub returns-in_ok-reserve-in-Some-clause-room : goal.returns-in_ok-reserve-in-Some-clause-room
returns-in_ok-reserve-in-Some-clause-room c =
    let d = c.index-lists-at.result in
    let x = get_or c.args.lists.now c.in-Some.at d in
    let list : ConsumerList = record { number = x.number; consumers = c.reserve.new.self } in
    let room : vec_len c.reserve.new.self < vec_capacity c.reserve.new.self = omega (arith, c.in_ok-reserve-in-Some.ensures.ok) in
    room_more c.args.number c.args.lists.now c.in-Some.at list d c.requires c.in-Some.ensures.within (c.in-Some.ensures.found d) room

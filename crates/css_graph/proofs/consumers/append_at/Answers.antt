use Rattle.std.proofs.Common.{refl, ◌≡◌, ◌<◌, ◌≤◌, ℕ, ◌+◌, Bool, true, false, List, ◌∷◌, [], ◌++◌, eqb, length, get_or, take, drop, map, vec_len, vec_capacity, ap, sym, ◌∙◌, subst, arith, rules}
use Rattle.css_graph.specs.declared.consumers.ConsumerList.{ConsumerList}
use Rattle.css_graph.specs.Tasks.{is_among}
use Rattle.css_graph.specs.Nodes.{IsAscending}
use Rattle.css_graph.specs.Consumers.{line_of, consumers_at, HaveRoom, with_each}
use Rattle.css_graph.proofs.ConsumerLists.{lines_set, lines_absent}
use Rattle.css_graph.proofs.consumers.append_at.Goals as goal

pub returns-in-Some-clause-lines : goal.returns-in-Some-clause-lines
returns-in-Some-clause-lines c =
    let d = c.index-lists-at.result in
    let x = get_or c.args.lists.now c.in-Some.at d in
    let list : ConsumerList = record { number = x.number; consumers = c.push_reserved.new.self } in
    let items = c.push_reserved.ensures.items in
    lines_set c.args.consumer c.args.number c.args.lists.now c.in-Some.at list d c.requires.ordered c.in-Some.ensures.within (c.in-Some.ensures.found d)
    (ap (λ (v : List ℕ). let line : ℕ × List ℕ = (x.number, v) in line) items)

pub returns-in-None-clause-lines : goal.returns-in-None-clause-lines
returns-in-None-clause-lines c = lines_absent c.args.consumer c.args.number c.args.lists.now c.in-None.ensures.absent

use Rattle.std.proofs.Common.{◌≡◌, ◌<◌, List, length, get_or, set, refl, ap, ◌∙◌, arith}
use Rattle.css_graph.specs.declared.node.Node.{Node}
use Rattle.css_graph.specs.Nodes.{in_state}
use Rattle.css_graph.specs.Places.{NodeList, nodes_at}
use Rattle.css_graph.proofs.NodeLists.{nodes_length, contains_at, written}
use Rattle.css_graph.proofs.nodes.Nodes.set_state.Goals as goal

pub index-requires : goal.index-requires
index-requires c =
    let s = c.self.inside.slab in
    let ps = c.self.inside.places.items in
    let has = c.self.invariant.present in
    let e : nodes_at s ps ≡ c.args.self.now.items = ap (λ (l : NodeList). l.items) c.self.view_is in
    let long = nodes_length s ps has in
    let same = ap length e in
    omega (arith, c.requires, c.self.inside.places.ok.0, long, same)

pub index_mut-requires : goal.index_mut-requires
index_mut-requires c =
    let s = c.self.inside.slab in
    let ps = c.self.inside.places.items in
    let has = c.self.invariant.present in
    let e : nodes_at s ps ≡ c.args.self.now.items = ap (λ (l : NodeList). l.items) c.self.view_is in
    let long = nodes_length s ps has in
    let same = ap length e in
    let l : c.args.at < length ps = omega (arith, c.requires, long, same) in
    contains_at s ps c.args.at c.index.result.now has l c.index.ensures

pub invariant_of-self : goal.invariant_of-self
invariant_of-self c =
    let s = c.self.inside.slab in
    let ps = c.self.inside.places.items in
    let has = c.self.invariant.present in
    let e : nodes_at s ps ≡ c.args.self.now.items = ap (λ (l : NodeList). l.items) c.self.view_is in
    let long = nodes_length s ps has in
    let same = ap length e in
    let l : c.args.at < length ps = omega (arith, c.requires, long, same) in
    let x = c.index_mut.result.now in
    let y : Node = in_state c.args.state x in
    let w = written s ps c.args.at c.index.result.now x y has c.self.invariant.different l c.index.ensures c.index_mut.ensures.value refl in
    record { present = w.present; different = c.self.invariant.different; no_other = w.len ∙ c.self.invariant.no_other }

pub returns-clause-items : goal.returns-clause-items
returns-clause-items c =
    let s = c.self.inside.slab in
    let ps = c.self.inside.places.items in
    let has = c.self.invariant.present in
    let e : nodes_at s ps ≡ c.args.self.now.items = ap (λ (l : NodeList). l.items) c.self.view_is in
    let long = nodes_length s ps has in
    let same = ap length e in
    let l : c.args.at < length ps = omega (arith, c.requires, long, same) in
    let x = c.index_mut.result.now in
    let y : Node = in_state c.args.state x in
    let w = written s ps c.args.at c.index.result.now x y has c.self.invariant.different l c.index.ensures c.index_mut.ensures.value refl in
    λ d. w.nodes
    ∙ ap (λ (z : Node). set (nodes_at s ps) c.args.at (in_state c.args.state z)) (w.before d)
    ∙ ap (λ (xs : List Node). set xs c.args.at (in_state c.args.state (get_or xs c.args.at d))) e

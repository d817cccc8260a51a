use Rattle.std.proofs.Common.{◌≡◌, ◌<◌, List, length, get_or, ap, ◌∙◌, arith}
use Rattle.css_graph.specs.declared.node.Node.{Node}
use Rattle.css_graph.specs.Places.{NodeList, nodes_at}
use Rattle.css_graph.proofs.NodeLists.{nodes_length, node_read, contains_at}
use Rattle.css_graph.proofs.nodes.Nodes.get.Goals as goal

pub index-requires : goal.index-requires
index-requires c =
    let s = c.self.inside.slab in
    let ps = c.self.inside.places.items in
    let has = c.self.invariant.present in
    let e : nodes_at s ps ≡ c.args.self.now.items = ap (λ (l : NodeList). l.items) c.self.view_is in
    let long = nodes_length s ps has in
    let same = ap length e in
    omega (arith, c.requires, c.self.inside.places.ok.0, long, same)

pub index-requires-2 : goal.index-requires-2
index-requires-2 c =
    let s = c.self.inside.slab in
    let ps = c.self.inside.places.items in
    let has = c.self.invariant.present in
    let e : nodes_at s ps ≡ c.args.self.now.items = ap (λ (l : NodeList). l.items) c.self.view_is in
    let long = nodes_length s ps has in
    let same = ap length e in
    let l : c.args.at < length ps = omega (arith, c.requires, long, same) in
    contains_at s ps c.args.at c.index.result.now has l c.index.ensures

pub returns : goal.returns
returns c =
    let s = c.self.inside.slab in
    let ps = c.self.inside.places.items in
    let has = c.self.invariant.present in
    let e : nodes_at s ps ≡ c.args.self.now.items = ap (λ (l : NodeList). l.items) c.self.view_is in
    let long = nodes_length s ps has in
    let same = ap length e in
    let l : c.args.at < length ps = omega (arith, c.requires, long, same) in
    λ d. node_read s ps c.args.at c.index.result.now c.index-2.result.now d has l c.index.ensures c.index-2.ensures ∙ ap (λ (xs : List Node). get_or xs c.args.at d) e

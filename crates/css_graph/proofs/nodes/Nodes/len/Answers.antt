use Rattle.std.proofs.Common.{◌≡◌, length, ap, arith}
use Rattle.css_graph.specs.Places.{NodeList, nodes_at}
use Rattle.css_graph.proofs.NodeLists.{nodes_length}
use Rattle.css_graph.proofs.nodes.Nodes.len.Goals as goal

pub returns : goal.returns
returns c =
    let s = c.self.inside.slab in
    let ps = c.self.inside.places.items in
    let has = c.self.invariant.present in
    let e : nodes_at s ps ≡ c.args.self.now.items = ap (λ (l : NodeList). l.items) c.self.view_is in
    let long = nodes_length s ps has in
    let same = ap length e in
    omega (arith, c.len.ensures, c.self.inside.places.ok.0, long, same)

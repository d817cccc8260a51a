use Rattle.std.proofs.Common.{◌≡◌, List, length, ltb, ap, sym, ◌∙◌}
use Rattle.css_graph.specs.declared.node.Node.{Node}
use Rattle.css_graph.specs.declared.nodes.Place.{Place}
use Rattle.css_graph.specs.Places.{NodeList, nodes_at}
use Rattle.std.specs.List.{list_all}
use Rattle.css_graph.proofs.NodeLists.{nodes_length, all_nodes}
use Rattle.css_graph.proofs.nodes.Nodes.are_below.Goals as goal

pub returns : goal.returns
returns c =
    let s = c.self.inside.slab in
    let ps = c.self.inside.places.items in
    let has = c.self.invariant.present in
    let e : nodes_at s ps ≡ c.args.self.now.items = ap (λ (l : NodeList). l.items) c.self.view_is in
    let long = nodes_length s ps has in
    let same = ap length e in
    c.numbers_are_below.ensures
    ∙ ap (λ (l : List Place). list_all (λ (p : Place). ltb p.number c.args.number) l) c.deref.ensures.value
    ∙ sym (all_nodes s (λ m. ltb m c.args.number) ps has)
    ∙ ap (λ (xs : List Node). list_all (λ (x : Node). ltb x.number c.args.number) xs) e

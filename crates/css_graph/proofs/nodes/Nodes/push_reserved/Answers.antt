use Rattle.std.proofs.Common.{◌≡◌, List, ◌∷◌, [], ◌++◌, length, map, refl, ap, sym, ◌∙◌, subst, arith, length-append}
use Rattle.css_graph.specs.declared.node.Node.{Node}
use Rattle.css_graph.specs.declared.nodes.Place.{Place}
use Rattle.css_graph.specs.Bundle.{AreDifferent}
use Rattle.css_graph.specs.Places.{NodeList, HasNode, nodes_at}
use Rattle.std.specs.List.{All}
use Rattle.css_graph.proofs.NodeLists.{key_of, nodes_length, fresh_key, nodes_pushed, has_pushed, keys_pushed}
use Rattle.css_graph.proofs.nodes.Nodes.push_reserved.Goals as goal

pub insert_reserved-key-requires : goal.insert_reserved-key-requires
insert_reserved-key-requires c =
    let s = c.self.inside.slab in
    let ps = c.self.inside.places.items in
    let has = c.self.invariant.present in
    let e : nodes_at s ps ≡ c.args.self.now.items = ap (λ (l : NodeList). l.items) c.self.view_is in
    let long = nodes_length s ps has in
    let same = ap length e in
    let room = ap (λ (l : NodeList). l.room) c.self.view_is in
    omega (arith, c.requires, long, same, room, c.self.invariant.no_other)

pub push_reserved-requires : goal.push_reserved-requires
push_reserved-requires c =
    let s = c.self.inside.slab in
    let ps = c.self.inside.places.items in
    let has = c.self.invariant.present in
    let e : nodes_at s ps ≡ c.args.self.now.items = ap (λ (l : NodeList). l.items) c.self.view_is in
    let long = nodes_length s ps has in
    let same = ap length e in
    let room = ap (λ (l : NodeList). l.room) c.self.view_is in
    omega (arith, c.requires, long, same, room, c.self.inside.places.ok.0)

pub invariant_of-self : goal.invariant_of-self
invariant_of-self c =
    let s = c.self.inside.slab in
    let ps = c.self.inside.places.items in
    let has = c.self.invariant.present in
    let e : nodes_at s ps ≡ c.args.self.now.items = ap (λ (l : NodeList). l.items) c.self.view_is in
    let long = nodes_length s ps has in
    let same = ap length e in
    let t = c.insert_reserved-key.new.self in
    let k = c.insert_reserved-key.result in
    let p : Place = record { number = c.args.node.number; key = k } in
    let fresh = fresh_key s k ps has c.insert_reserved-key.ensures.was_vacant in
    let items = c.push_reserved.ensures.items in
    let one = length-append ps (p ∷ []) in
    let longer = ap length items in
    record {
      present = subst (All (HasNode t)) (sym items) (has_pushed s t k c.args.node c.insert_reserved-key.ensures.updates p ps refl refl fresh has);
      different = subst (λ (qs : List Place). AreDifferent (map key_of qs)) (sym items) (keys_pushed p ps k refl c.self.invariant.different fresh);
      no_other = omega (arith, c.insert_reserved-key.ensures.len, one, longer, c.self.invariant.no_other);
    }

pub returns-clause-items : goal.returns-clause-items
returns-clause-items c =
    let s = c.self.inside.slab in
    let ps = c.self.inside.places.items in
    let has = c.self.invariant.present in
    let e : nodes_at s ps ≡ c.args.self.now.items = ap (λ (l : NodeList). l.items) c.self.view_is in
    let long = nodes_length s ps has in
    let same = ap length e in
    let t = c.insert_reserved-key.new.self in
    let k = c.insert_reserved-key.result in
    let p : Place = record { number = c.args.node.number; key = k } in
    let fresh = fresh_key s k ps has c.insert_reserved-key.ensures.was_vacant in
    let items = c.push_reserved.ensures.items in
    ap (nodes_at t) items
    ∙ nodes_pushed s t k c.args.node c.insert_reserved-key.ensures.updates p ps refl fresh
    ∙ ap (λ (xs : List Node). xs ++ c.args.node ∷ []) e

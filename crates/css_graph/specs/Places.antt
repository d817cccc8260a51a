-- How the nodes stand in a slab.
use Rattle.std.specs.Prelude.{◌≡◌, ℕ, List, length, map, filter_map, Some}
use Rattle.std.specs.List.{All}
use Rattle.slab.specs.Slab.{Slab, get, slab_len}
use Rattle.css_graph.specs.declared.node.Node.{Node}
use Rattle.css_graph.specs.declared.nodes.Nodes.TheInside.{Inside}
use Rattle.css_graph.specs.declared.nodes.Place.{Place}
use Rattle.css_graph.specs.Bundle.{AreDifferent}

-- the nodes in order of number, and for how many there is room
pub record NodeList : Type 0 where
  pub items : List Node
  pub room : ℕ

-- the nodes at these places, in their order
abbrev pub nodes_at : Slab Node → List Place → List Node
nodes_at s places = filter_map (λ p. get s p.key) places

-- the slab has the node of the place's number there
abbrev pub HasNode : Slab Node → Place → Type 0
HasNode s p = (x : Node) × (get s p.key ≡ Some x) × (x.number ≡ p.number)

-- each place has its node, no two have the same key, and the slab has no other node
pub record IsPlaced (n : Inside) : Type 0 where
  pub present : All (HasNode n.slab) n.places.items
  pub different : AreDifferent (map (λ p. p.key) n.places.items)
  pub no_other : slab_len n.slab ≡ length n.places.items

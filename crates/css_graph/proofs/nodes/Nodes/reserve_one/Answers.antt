use Rattle.std.proofs.Common.{◌≡◌, List, length, map, is_some, count_by, refl, ap, sym, ◌∙◌, subst, arith}
use Rattle.css_graph.specs.declared.node.Node.{Node}
use Rattle.css_graph.specs.declared.nodes.Place.{Place}
use Rattle.css_graph.specs.Bundle.{AreDifferent}
use Rattle.css_graph.proofs.NodeLists.{key_of, nodes_length, has_same}
use Rattle.slab.specs.Slab.{Slab}
use Rattle.css_graph.proofs.nodes.Nodes.reserve_one.Goals as goal

pub invariant_of-self : goal.invariant_of-self
invariant_of-self c =
    let s = c.self.inside.slab in
    let ps = c.self.inside.places.items in
    let t = c.reserve.new.self in
    let slots = ap (λ (r : Slab Node). r.slots) c.reserve.ensures.rest_kept in
    record {
      present = has_same s t ps ps slots (let r : ps ≡ ps = refl in r) c.self.invariant.present;
      different = subst (λ (qs : List Place). AreDifferent (map key_of qs)) (sym (let r : ps ≡ ps = refl in r)) c.self.invariant.different;
      no_other = ap (count_by is_some) slots ∙ c.self.invariant.no_other ∙ ap length (sym (let r : ps ≡ ps = refl in r));
    }

pub invariant_of-self-in_err-reserve-2 : goal.invariant_of-self-in_err-reserve-2
invariant_of-self-in_err-reserve-2 c =
    let s = c.self.inside.slab in
    let ps = c.self.inside.places.items in
    let t = c.reserve.new.self in
    let slots = ap (λ (r : Slab Node). r.slots) c.reserve.ensures.rest_kept in
    record {
      present = has_same s t ps c.reserve-2.new.self.items slots c.reserve-2.ensures.items c.self.invariant.present;
      different = subst (λ (qs : List Place). AreDifferent (map key_of qs)) (sym c.reserve-2.ensures.items) c.self.invariant.different;
      no_other = ap (count_by is_some) slots ∙ c.self.invariant.no_other ∙ ap length (sym c.reserve-2.ensures.items);
    }

pub invariant_of-self-2 : goal.invariant_of-self-2
invariant_of-self-2 c =
    let s = c.self.inside.slab in
    let ps = c.self.inside.places.items in
    let t = c.reserve.new.self in
    let slots = ap (λ (r : Slab Node). r.slots) c.reserve.ensures.rest_kept in
    record {
      present = has_same s t ps c.reserve-2.new.self.items slots c.reserve-2.ensures.items c.self.invariant.present;
      different = subst (λ (qs : List Place). AreDifferent (map key_of qs)) (sym c.reserve-2.ensures.items) c.self.invariant.different;
      no_other = ap (count_by is_some) slots ∙ c.self.invariant.no_other ∙ ap length (sym c.reserve-2.ensures.items);
    }

pub returns-clause-room : goal.returns-clause-room
returns-clause-room c =
    let s = c.self.inside.slab in
    let ps = c.self.inside.places.items in
    let t = c.reserve.new.self in
    let qs = c.reserve-2.new.self.items in
    let slots = ap (λ (r : Slab Node). r.slots) c.reserve.ensures.rest_kept in
    let items = c.reserve-2.ensures.items in
    let long = nodes_length t qs (has_same s t ps qs slots items c.self.invariant.present) in
    let count = ap (count_by is_some) slots in
    let longer = ap length items in
    omega (arith, long, count, longer, c.self.invariant.no_other, c.in_ok-reserve.ensures.room, c.in_ok-reserve-2.ensures.ok, c.reserve-2.new.self.ok.0)

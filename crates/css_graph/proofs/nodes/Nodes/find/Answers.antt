use Rattle.std.proofs.Common.{◌≡◌, List, map, ap, sym, subst, rules}
use Rattle.css_graph.specs.declared.node.Node.{Node}
use Rattle.css_graph.specs.declared.nodes.Place.{Place}
use Rattle.css_graph.specs.Nodes.{IsAscending}
use Rattle.css_graph.specs.Places.{NodeList, nodes_at}
use Rattle.css_graph.proofs.NodeLists.{nodes_numbers, nodes_finds}
use Rattle.std.specs.Result.{result_ok}
use Rattle.std.proofs.lemmas.List.Sorted.{answers_always}
use Rattle.css_graph.proofs.Keyed.{Finds, finds}
use Rattle.css_graph.proofs.nodes.Nodes.find.Goals as goal

pub returns-clause-within : goal.returns-clause-within
returns-clause-within c =
    let s = c.self.inside.slab in
    let ps = c.self.inside.places.items in
    let qs = c.deref.result.now in
    let n = c.args.number in
    let has = c.self.invariant.present in
    let r = c.binary_search_by_key.result in
    let e : nodes_at s ps ≡ c.args.self.now.items = ap (λ (l : NodeList). l.items) c.self.view_is in
    let value : qs ≡ ps = c.deref.ensures.value in
    let nodes_up = subst (λ (xs : List Node). IsAscending (map (λ (x : Node). x.number) xs)) (sym e) c.requires in
    let places_up = subst IsAscending (nodes_numbers s ps has) nodes_up in
    let up = subst (λ (l : List Place). IsAscending (map (λ (p : Place). p.number) l)) (sym value) places_up in
    let by_key = c.binary_search_by_key.ensures.position (λ (p : Place). p.number) (answers_always _ _ _ (λ f a r g called. search rules)) in
    let places = finds (λ (p : Place). p.number) qs n up r c.binary_search_by_key.ensures.bound by_key in
    let nodes = nodes_finds s n ps (result_ok r) has (subst (λ (l : List Place). Finds (λ (p : Place). p.number) l n (result_ok r)) value places) in
    let facts = subst (λ (xs : List Node). Finds (λ (x : Node). x.number) xs n (result_ok r)) e nodes in
    rw c.ok.ensures.value facts.within

pub returns-clause-found : goal.returns-clause-found
returns-clause-found c =
    let s = c.self.inside.slab in
    let ps = c.self.inside.places.items in
    let qs = c.deref.result.now in
    let n = c.args.number in
    let has = c.self.invariant.present in
    let r = c.binary_search_by_key.result in
    let e : nodes_at s ps ≡ c.args.self.now.items = ap (λ (l : NodeList). l.items) c.self.view_is in
    let value : qs ≡ ps = c.deref.ensures.value in
    let nodes_up = subst (λ (xs : List Node). IsAscending (map (λ (x : Node). x.number) xs)) (sym e) c.requires in
    let places_up = subst IsAscending (nodes_numbers s ps has) nodes_up in
    let up = subst (λ (l : List Place). IsAscending (map (λ (p : Place). p.number) l)) (sym value) places_up in
    let by_key = c.binary_search_by_key.ensures.position (λ (p : Place). p.number) (answers_always _ _ _ (λ f a r g called. search rules)) in
    let places = finds (λ (p : Place). p.number) qs n up r c.binary_search_by_key.ensures.bound by_key in
    let nodes = nodes_finds s n ps (result_ok r) has (subst (λ (l : List Place). Finds (λ (p : Place). p.number) l n (result_ok r)) value places) in
    let facts = subst (λ (xs : List Node). Finds (λ (x : Node). x.number) xs n (result_ok r)) e nodes in
    rw c.ok.ensures.value facts.found

pub returns-clause-absent : goal.returns-clause-absent
returns-clause-absent c =
    let s = c.self.inside.slab in
    let ps = c.self.inside.places.items in
    let qs = c.deref.result.now in
    let n = c.args.number in
    let has = c.self.invariant.present in
    let r = c.binary_search_by_key.result in
    let e : nodes_at s ps ≡ c.args.self.now.items = ap (λ (l : NodeList). l.items) c.self.view_is in
    let value : qs ≡ ps = c.deref.ensures.value in
    let nodes_up = subst (λ (xs : List Node). IsAscending (map (λ (x : Node). x.number) xs)) (sym e) c.requires in
    let places_up = subst IsAscending (nodes_numbers s ps has) nodes_up in
    let up = subst (λ (l : List Place). IsAscending (map (λ (p : Place). p.number) l)) (sym value) places_up in
    let by_key = c.binary_search_by_key.ensures.position (λ (p : Place). p.number) (answers_always _ _ _ (λ f a r g called. search rules)) in
    let places = finds (λ (p : Place). p.number) qs n up r c.binary_search_by_key.ensures.bound by_key in
    let nodes = nodes_finds s n ps (result_ok r) has (subst (λ (l : List Place). Finds (λ (p : Place). p.number) l n (result_ok r)) value places) in
    let facts = subst (λ (xs : List Node). Finds (λ (x : Node). x.number) xs n (result_ok r)) e nodes in
    rw c.ok.ensures.value facts.absent

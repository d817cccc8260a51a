use Rattle.std.proofs.Common.{◌≡◌, ℕ, Option, rules, sym, ap}
use Rattle.std.specs.Result.{result_ok}
use Rattle.std.proofs.lemmas.List.Sorted.{answers_always}
use Rattle.css_graph.specs.declared.consumers.ConsumerList.{ConsumerList}
use Rattle.css_graph.proofs.Keyed.{Finds, finds}
use Rattle.css_graph.proofs.consumers.place_of.Goals as goal

pub returns-clause-found : goal.returns-clause-found
returns-clause-found c =
    let by_key = c.binary_search_by_key.ensures.position (λ (x : ConsumerList). x.number) (answers_always _ _ _ (λ f a r g called. search rules)) in
    let facts = finds (λ (x : ConsumerList). x.number) c.args.lists.now c.args.number c.requires c.binary_search_by_key.result c.binary_search_by_key.ensures.bound by_key in
    rw c.ok.ensures.value facts.found

pub returns-clause-absent : goal.returns-clause-absent
returns-clause-absent c =
    let by_key = c.binary_search_by_key.ensures.position (λ (x : ConsumerList). x.number) (answers_always _ _ _ (λ f a r g called. search rules)) in
    let facts = finds (λ (x : ConsumerList). x.number) c.args.lists.now c.args.number c.requires c.binary_search_by_key.result c.binary_search_by_key.ensures.bound by_key in
    rw c.ok.ensures.value facts.absent

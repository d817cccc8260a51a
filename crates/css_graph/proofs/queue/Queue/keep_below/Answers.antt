use Rattle.std.proofs.Common.{◌≡◌, ℕ, ltb, take, ap, sym, ◌∙◌, subst}
use Rattle.css_graph.specs.Nodes.{Queue, IsAscending}
use Rattle.css_graph.proofs.Numbers.{ascending_filter}
use Rattle.css_graph.proofs.queue.Queue.keep_below.Goals as goal

pub invariant_of-self : goal.invariant_of-self
invariant_of-self c =
    let e : c.self.inside.numbers.items ≡ c.args.self.now.numbers = ap (λ (q : Queue). q.numbers) c.self.view_is in
    subst IsAscending (sym (c.truncate.ensures.items ∙ ap (take c.place_of-place.result) e ∙ c.place_of-place.ensures.before))
    (ascending_filter (λ m. ltb m c.args.number) c.args.self.now.numbers (subst IsAscending e c.self.invariant))

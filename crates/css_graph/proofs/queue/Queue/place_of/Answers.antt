use Rattle.std.proofs.Common.{◌≡◌, ◌≤◌, ℕ, ltb, length, take, drop, not, ap, sym, rules, arith}
use Rattle.std.proofs.lemmas.Fn.{always_returns_same}
use Rattle.css_graph.specs.Nodes.{Queue}
use Rattle.css_graph.proofs.Numbers.{divided, parted}
use Rattle.css_graph.proofs.queue.Queue.place_of.Goals as goal

pub returns-clause-before : goal.returns-clause-before
returns-clause-before c =
    let e : c.self.inside.numbers.items ≡ c.args.self.now.numbers = ap (λ (q : Queue). q.numbers) c.self.view_is in
    let split = c.partition_point.ensures.partitioned (λ m. ltb m c.args.number) (always_returns_same _ _ _ (λ a r f called. (search rules, search rules))) (divided c.args.number c.self.inside.numbers.items c.self.invariant) in
    let bound : c.partition_point.result ≤ length c.self.inside.numbers.items = search rules in
    rw (← e) (parted (λ m. ltb m c.args.number) c.self.inside.numbers.items c.partition_point.result bound split.0 split.1).0

pub returns-clause-after : goal.returns-clause-after
returns-clause-after c =
    let e : c.self.inside.numbers.items ≡ c.args.self.now.numbers = ap (λ (q : Queue). q.numbers) c.self.view_is in
    let split = c.partition_point.ensures.partitioned (λ m. ltb m c.args.number) (always_returns_same _ _ _ (λ a r f called. (search rules, search rules))) (divided c.args.number c.self.inside.numbers.items c.self.invariant) in
    let bound : c.partition_point.result ≤ length c.self.inside.numbers.items = search rules in
    rw (← e) (parted (λ m. ltb m c.args.number) c.self.inside.numbers.items c.partition_point.result bound split.0 split.1).1

use Rattle.std.proofs.Common.{◌≡◌, ℕ, ◌-◌, eqb, take}
use Rattle.css_graph.specs.Nodes.{count_where}
use Rattle.css_graph.specs.Chain.{left_at, is_member, HasCandidates}
use Rattle.css_graph.proofs.chain.Chain.append.Given as goal

abbrev pub invariant-loop-consumer : goal.invariant-loop-consumer
invariant-loop-consumer l = record {
  left : (n : ℕ) → left_at l.self l.agenda.nodes n ≡ left_at l.initial.self l.agenda.nodes n - count_where (λ c. eqb c n) (take l.consumer-index l.consumer-items);
  members : (n : ℕ) → is_member l.self n ≡ is_member l.initial.self n;
  candidates : HasCandidates l.self l.agenda;
}

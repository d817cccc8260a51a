use Rattle.std.proofs.Common.{refl, ◌≡◌, ◌<◌, ◌≤◌, ℕ, ◌+◌, ◌-◌, Bool, true, false, cond, List, ◌∷◌, [], ◌++◌, eqb, length, get_or, take, map, ap, sym, ◌∙◌, subst, arith, rules, unwrap_or}
use Rattle.css_graph.specs.Nodes.{count_where, numbers_where, put, task_of}
use Rattle.css_graph.specs.Chain.{left_at, is_member, is_candidate, missing_at}
use Rattle.std.proofs.lemmas.List.{take_more}
use Rattle.css_graph.proofs.Counts.{count_push}
use Rattle.css_graph.proofs.chain.Chain.append.Goals as goal

pub loop-consumer-preserved : goal.loop-consumer-preserved
loop-consumer-preserved c =
    let i = c.loop-consumer.consumer-index in
    let cs = c.of-consumer-items.result.now in
    let inv = c.loop-consumer.invariant in
    let l : i < length cs = c.loop-consumer-test.true in
    record {
      left = λ n.
          let counts : count_where (λ m. eqb m n) (take (i + 1) cs) ≡ count_where (λ m. eqb m n) (take i cs) + cond (eqb (get_or cs i 0) n) 1 0 =
          ap (count_where (λ m. eqb m n)) (take_more cs i 0 l) ∙ count_push (λ m. eqb m n) (take i cs) (get_or cs i 0) in
          let met = c.in_ok-meet.ensures.left n in
          let was = inv.left n in
          omega (arith, counts, met, was);
      members = λ n. c.in_ok-meet.ensures.members n ∙ inv.members n;
      candidates = c.in_ok-meet.ensures.candidates;
    }

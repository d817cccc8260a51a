use Rattle.std.proofs.Common.{refl, ◌≡◌, ◌<◌, ◌≤◌, ℕ, ◌+◌, Bool, true, false, List, ◌∷◌, [], ◌++◌, eqb, length, get_or, take, drop, map, ap, sym, ◌∙◌, subst, arith, rules}
use Rattle.std.proofs.lemmas.List.{take_more}
use Rattle.css_graph.specs.declared.consumers.ConsumerList.{ConsumerList}
use Rattle.css_graph.specs.Nodes.{IsAscending}
use Rattle.css_graph.specs.Consumers.{line_of, HaveRoom, with_each}
use Rattle.css_graph.proofs.ConsumerLists.{ascending_lines}
use Rattle.css_graph.proofs.consumers.reserve_each.Goals as goal

pub loop-number-preserved : goal.loop-number-preserved
loop-number-preserved c =
    let i = c.loop-number.number-index in
    let ns = c.args.numbers.now in
    let inv = c.loop-number.invariant in
    let l : i < length ns = c.loop-number-test.true in
    let kept = c.in_ok-reserve_at.ensures.kept in
    record {
      ordered = ascending_lines c.loop-number.lists c.reserve_at.new.lists kept inv.ordered;
      room = subst (λ (ms : List ℕ). HaveRoom ms c.reserve_at.new.lists) (sym (take_more ns i 0 l)) (c.in_ok-reserve_at.ensures.room (take i ns) inv.room);
      lines = kept ∙ inv.lines;
    }

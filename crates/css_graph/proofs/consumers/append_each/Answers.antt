use Rattle.std.proofs.Common.{refl, ◌≡◌, ◌<◌, ◌≤◌, ℕ, ◌+◌, Bool, true, false, List, ◌∷◌, [], ◌++◌, eqb, length, get_or, take, drop, map, ap, sym, ◌∙◌, subst, arith, rules}
use Rattle.std.proofs.lemmas.List.{take_more}
use Rattle.css_graph.specs.declared.consumers.ConsumerList.{ConsumerList}
use Rattle.css_graph.specs.Nodes.{IsAscending}
use Rattle.css_graph.specs.Consumers.{line_of, HaveRoom, with_each}
use Rattle.css_graph.proofs.ConsumerLists.{each_start, each_more, different_at, among_later, room_next, numbers_stay}
use Rattle.css_graph.proofs.consumers.append_each.Goals as goal

pub loop-number-init : goal.loop-number-init
loop-number-init c = record { ordered = c.requires.ordered; room = c.requires.room; lines = sym (each_start c.args.consumer (map line_of c.args.lists.now)) }

pub loop-number-preserved : goal.loop-number-preserved
loop-number-preserved c =
    let i = c.loop-number.number-index in
    let ns = c.args.numbers.now in
    let n = get_or ns i 0 in
    let inv = c.loop-number.invariant in
    let l : i < length ns = c.loop-number-test.true in
    let lines = c.append_at.ensures.lines in
    record {
      ordered = subst IsAscending (sym (numbers_stay c.args.consumer (n ∷ []) c.loop-number.lists c.append_at.new.lists lines)) inv.ordered;
      room = c.append_at.ensures.room (drop (i + 1) ns) (among_later ns c.requires.different i 0 l) (room_next c.loop-number.lists ns i 0 l inv.room);
      lines = lines ∙ ap (with_each c.args.consumer (n ∷ [])) inv.lines ∙ each_more c.args.consumer n (take i ns) (different_at ns c.requires.different i 0 l) (map line_of c.args.lists.now)
          ∙ ap (λ (ms : List ℕ). with_each c.args.consumer ms (map line_of c.args.lists.now)) (sym (take_more ns i 0 l));
    }

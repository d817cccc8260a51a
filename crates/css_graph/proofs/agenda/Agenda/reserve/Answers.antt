use Rattle.std.proofs.Common.{List, length, map, ap, sym, ◌∙◌, subst, arith, rules}
use Rattle.css_graph.specs.declared.node.Node.{Node}
use Rattle.css_graph.specs.Nodes.{IsAscending, ready_high, ready_low, numbers_where}
use Rattle.css_graph.proofs.agenda.Agenda.reserve.Goals as goal

pub invariant_of-self-2 : goal.invariant_of-self-2
invariant_of-self-2 c =
    let e = c.in_ok-reserve_one.ensures.items in
    let long = ap length e in
    record {
      ordered = subst (λ (xs : List Node). IsAscending (map (λ x. x.number) xs)) (sym e) c.self.invariant.ordered;
      high = c.in_ok-reserve.ensures.numbers ∙ c.self.invariant.high ∙ ap (numbers_where (ready_high c.self.inside.bound)) (sym e);
      low = c.in_ok-reserve-2.ensures.numbers ∙ c.self.invariant.low ∙ ap (numbers_where (ready_low c.self.inside.bound)) (sym e);
      within = search rules;
      nodes_room = omega (arith, c.in_ok-reserve_one.ensures.room, c.len-room.ensures);
      high_room = omega (arith, c.in_ok-reserve.ensures.room);
      low_room = omega (arith, c.in_ok-reserve-2.ensures.room);
      small = omega (arith, c.in_ok-reserve_one.ensures.room, c.in_ok-reserve_one.ensures.small, c.len-room.ensures);
    }

pub overflow_add-room : goal.overflow_add-room
overflow_add-room c = omega (arith, c.in_ok-reserve_one.ensures.room, c.in_ok-reserve_one.ensures.small, c.len-room.ensures)

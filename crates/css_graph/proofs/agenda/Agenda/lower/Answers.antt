use Rattle.std.proofs.Common.{ℕ, Option, ap, sym, ◌∙◌, arith}
use Rattle.css_graph.specs.Nodes.{ready_high, ready_low, numbers_where}
use Rattle.css_graph.specs.Nodes.{below}
use Rattle.css_graph.proofs.Agendas.{high_lowered, low_lowered}
use Rattle.css_graph.proofs.agenda.Agenda.lower.Goals as goal

pub invariant_of-self : goal.invariant_of-self
invariant_of-self c =
    let xs = c.self.inside.nodes.items in
    let b = c.lower_of-self-inside.ensures in
    record {
      ordered = c.self.invariant.ordered;
      high = c.keep_below.ensures.numbers ∙ ap (below c.args.number) c.self.invariant.high ∙ high_lowered c.self.inside.bound c.args.number xs ∙ ap (λ (o : Option ℕ). numbers_where (ready_high o) xs) (sym b);
      low = c.keep_below-2.ensures.numbers ∙ ap (below c.args.number) c.self.invariant.low ∙ low_lowered c.self.inside.bound c.args.number xs ∙ ap (λ (o : Option ℕ). numbers_where (ready_low o) xs) (sym b);
      within = c.self.invariant.within;
      nodes_room = c.self.invariant.nodes_room;
      high_room = omega (arith, c.self.invariant.high_room, c.keep_below.ensures.room);
      low_room = omega (arith, c.self.invariant.low_room, c.keep_below-2.ensures.room);
      small = c.self.invariant.small;
    }

use Rattle.std.proofs.Common.{length, ap, arith}
use Rattle.css_graph.proofs.Agendas.{length_both}
use Rattle.css_graph.proofs.agenda.Agenda.ready_count.Goals as goal

pub overflow_add-result : goal.overflow_add-result
overflow_add-result c =
    let xs = c.self.inside.nodes.items in
    let both = length_both c.self.inside.bound xs in
    let high = ap length c.self.invariant.high in
    let low = ap length c.self.invariant.low in
    omega (arith, both, high, low, c.len.ensures, c.len-2.ensures, c.self.invariant.within, c.self.invariant.small)

use Rattle.std.proofs.Common.{◌≡◌, ◌<◌, length, get_or, ap, sym, ◌∙◌}
use Rattle.css_graph.specs.Nodes.{Agenda}
use Rattle.css_graph.proofs.Agendas.{finished_read, finished_absent}
use Rattle.css_graph.proofs.agenda.Agenda.is_finished.Goals as goal

pub returns-in-Some : goal.returns-in-Some
returns-in-Some c =
    let xs = c.self.inside.nodes.items in
    let e : xs ≡ c.args.self.now.nodes = ap (λ (a : Agenda). a.nodes) c.self.view_is in
    let at : (get_or xs c.in-Some.at c.get.result.now).number ≡ c.args.number = c.in-Some.ensures.found c.get.result.now in
    let l : c.in-Some.at < length xs = c.in-Some.ensures.within in
    let read = finished_read c.args.number xs c.in-Some.at c.get.result.now c.self.invariant.ordered l at (c.get.ensures c.get.result.now) in
    rw (← e) (c.is_finished.ensures ∙ sym (read))

pub returns-in-None : goal.returns-in-None
returns-in-None c =
    let xs = c.self.inside.nodes.items in
    let e : xs ≡ c.args.self.now.nodes = ap (λ (a : Agenda). a.nodes) c.self.view_is in
    let gone = c.in-None.ensures.absent in
    rw (← e) (sym (finished_absent c.args.number xs gone))

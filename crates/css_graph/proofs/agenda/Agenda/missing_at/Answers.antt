use Rattle.std.proofs.Common.{◌≡◌, ◌<◌, length, get_or, ap, sym}
use Rattle.css_graph.specs.Nodes.{Agenda}
use Rattle.css_graph.proofs.Agendas.{missing_read, missing_absent}
use Rattle.css_graph.proofs.agenda.Agenda.missing_at.Goals as goal

pub returns-in-Some : goal.returns-in-Some
returns-in-Some c =
    let xs = c.self.inside.nodes.items in
    let e : xs ≡ c.args.self.now.nodes = ap (λ (a : Agenda). a.nodes) c.self.view_is in
    let at : (get_or xs c.in-Some.at c.get.result.now).number ≡ c.args.number = c.in-Some.ensures.found c.get.result.now in
    let l : c.in-Some.at < length xs = c.in-Some.ensures.within in
    let read = missing_read c.args.number xs c.in-Some.at c.get.result.now c.self.invariant.ordered l at (c.get.ensures c.get.result.now) in
    rw (← e) (sym (read))

pub returns-in-None : goal.returns-in-None
returns-in-None c =
    let xs = c.self.inside.nodes.items in
    let e : xs ≡ c.args.self.now.nodes = ap (λ (a : Agenda). a.nodes) c.self.view_is in
    let gone = c.in-None.ensures.absent in
    rw (← e) (sym (missing_absent c.args.number xs gone))

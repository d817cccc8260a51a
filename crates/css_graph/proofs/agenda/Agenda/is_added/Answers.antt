use Rattle.std.proofs.Common.{◌≡◌, ◌<◌, length, get_or, ap, sym}
use Rattle.css_graph.specs.declared.node.Node.{Node}
use Rattle.css_graph.specs.Nodes.{Agenda}
use Rattle.css_graph.proofs.Agendas.{added_found, added_absent}
use Rattle.css_graph.proofs.agenda.Agenda.is_added.Goals as goal

pub returns-in-Some : goal.returns-in-Some
returns-in-Some c =
    let xs = c.self.inside.nodes.items in
    let e : xs ≡ c.args.self.now.nodes = ap (λ (a : Agenda). a.nodes) c.self.view_is in
    let found : (d : Node) → (get_or xs c.in-Some._at d).number ≡ c.args.number = λ d. c.in-Some.ensures.found d in
    let l : c.in-Some._at < length xs = c.in-Some.ensures.within in
    rw (← e) (sym (added_found c.args.number xs c.in-Some._at c.self.invariant.ordered l found))

pub returns-in-None : goal.returns-in-None
returns-in-None c =
    let xs = c.self.inside.nodes.items in
    let e : xs ≡ c.args.self.now.nodes = ap (λ (a : Agenda). a.nodes) c.self.view_is in
    let gone = c.in-None.ensures.absent in
    rw (← e) (sym (added_absent c.args.number xs gone))

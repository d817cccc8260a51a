use Rattle.std.proofs.Common.{◌≡◌, ◌<◌, length, get_or, ap, sym, ◌∙◌}
use Rattle.css_graph.specs.declared.node.Node.{Node}
use Rattle.css_graph.specs.Nodes.{Agenda}
use Rattle.css_graph.specs.Chain.{may_follow}
use Rattle.css_graph.proofs.Keyed.{none_absent}
use Rattle.css_graph.proofs.Agendas.{any_read}
use Rattle.css_graph.proofs.agenda.Agenda.may_follow.Goals as goal

pub returns-in-Some : goal.returns-in-Some
returns-in-Some c =
    let xs = c.self.inside.nodes.items in
    let e : xs ≡ c.args.self.now.nodes = ap (λ (a : Agenda). a.nodes) c.self.view_is in
    let b : c.self.inside.bound ≡ c.args.self.now.bound = ap (λ (a : Agenda). a.bound) c.self.view_is in
    let at : (get_or xs c.in-Some.at c.get.result.now).number ≡ c.args.number = c.in-Some.ensures.found c.get.result.now in
    let l : c.in-Some.at < length xs = c.in-Some.ensures.within in
    let read = any_read (may_follow c.self.inside.bound) c.args.number xs c.in-Some.at c.get.result.now c.self.invariant.ordered l at (c.get.ensures c.get.result.now) in
    rw (← e, ← b) (c.node_may_follow.ensures ∙ sym read)

pub returns-in-None : goal.returns-in-None
returns-in-None c =
    let xs = c.self.inside.nodes.items in
    let e : xs ≡ c.args.self.now.nodes = ap (λ (a : Agenda). a.nodes) c.self.view_is in
    let gone = c.in-None.ensures.absent in
    rw (← e) (sym (none_absent (λ (x : Node). x.number) (may_follow c.args.self.now.bound) c.args.number xs gone))

use Rattle.std.proofs.Common.{◌≡◌, ℕ, ltb, List, map, ap, sym, ◌∙◌}
use Rattle.std.specs.List.{list_all}
use Rattle.css_graph.specs.Tasks.{Task, TaskGraph}
use Rattle.css_graph.specs.Nodes.{task_of}
use Rattle.css_graph.proofs.Graphs.{tasks_below}
use Rattle.css_graph.proofs.graph.Graph.is_last.Goals as goal

pub returns : goal.returns
returns c =
    let e : map task_of c.self.inside.agenda.nodes ≡ c.args.self.now.tasks = ap (λ (h : TaskGraph). h.tasks) c.self.view_is in
    c.is_last.ensures ∙ sym (tasks_below c.self.inside.agenda.nodes c.args.number) ∙ ap (λ (ts : List Task). list_all (λ (t : Task). ltb t.number c.args.number) ts) e

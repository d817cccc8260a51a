use Rattle.std.proofs.Common.{refl, ◌≡◌, ◌≢◌, ◌<◌, ◌≤◌, ℕ, ◌+◌, Bool, true, false, ltb, List, ◌∷◌, [], ◌++◌, length, map, ap, sym, ◌∙◌, subst, inl, inr, arith, rules}
use Rattle.std.specs.List.{list_all}
use Rattle.css_graph.specs.declared.state.TaskState.TheVariants.{Waiting, Out, Finished, Stopped}
use Rattle.css_graph.specs.Tasks.{Task, TaskGraph, is_number_out, come_to, where_come}
use Rattle.css_graph.specs.Bundle.{takeable}
use Rattle.css_graph.specs.Nodes.{task_of, in_state_by, less_by}
use Rattle.css_graph.proofs.Graphs.{done_tied, done_tasks}
use Rattle.css_graph.proofs.graph.Graph.done.Goals as goal

pub invariant_of-self : goal.invariant_of-self
invariant_of-self c =
    let g = c.self.inside in
    let e : map task_of g.agenda.nodes ≡ c.args.self.now.tasks = ap (λ (h : TaskGraph). h.tasks) c.self.view_is in
    let out : is_number_out (map task_of g.agenda.nodes) c.args.number ≡ true = subst (λ (ts : List Task). is_number_out ts c.args.number ≡ true) (sym e) c.requires in
    let released = c.release_each.ensures.nodes ∙ ap (λ (cs : List ℕ). map (less_by cs) c.set_states.new.self.nodes) c.of.ensures in
    (c.self.invariant.0, done_tied g.agenda g.consumers c.self.invariant.1 c.set_states.new.self c.release_each.new.self c.args.number out c.set_states.ensures.nodes c.set_states.ensures.bound released c.release_each.ensures.bound)

pub returns : goal.returns
returns c =
    let g = c.self.inside in
    let tasks = done_tasks Finished (c.args.number ∷ []) c.of.result.now g.agenda.nodes c.set_states.new.self.nodes c.release_each.new.self.nodes c.set_states.ensures.nodes c.release_each.ensures.nodes in
    ap (λ (ts : List Task). let h : TaskGraph = record { workers = g.workers; tasks = ts } in h) tasks
    ∙ ap (λ (h : TaskGraph). where_come h Finished (c.args.number ∷ [])) c.self.view_is

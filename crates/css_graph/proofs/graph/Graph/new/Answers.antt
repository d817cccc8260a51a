use Rattle.std.proofs.Common.{refl, ◌≡◌, ◌≢◌, ◌<◌, ◌≤◌, ℕ, ◌+◌, Bool, true, false, ltb, List, ◌∷◌, [], ◌++◌, length, map, ap, sym, ◌∙◌, subst, inl, inr, arith, rules}
use Rattle.std.specs.List.{list_all}
use Rattle.css_graph.specs.declared.state.TaskState.TheVariants.{Waiting, Out, Finished, Stopped}
use Rattle.css_graph.specs.Tasks.{Task, TaskGraph, is_number_out, come_to, where_come}
use Rattle.css_graph.specs.Bundle.{takeable}
use Rattle.css_graph.specs.Nodes.{task_of, in_state_by, less_by}
use Rattle.css_graph.proofs.Graphs.{empty_tied}
use Rattle.css_graph.proofs.graph.Graph.new.Goals as goal

pub invariant_of-result : goal.invariant_of-result
invariant_of-result c = (c.requires, empty_tied c.new.result c.new-2.result c.new.ensures c.new-2.ensures)

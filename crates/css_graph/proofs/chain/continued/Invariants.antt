use Rattle.std.proofs.Common.{◌≡◌, true, ◌-◌, map}
use Rattle.std.specs.List.{list_all}
use Rattle.css_graph.specs.Tasks.{is_number_waiting}
use Rattle.css_graph.specs.Bundle.{AreDifferent, continued}
use Rattle.css_graph.specs.Nodes.{task_of}
use Rattle.css_graph.specs.Chain.{Knows}
use Rattle.css_graph.proofs.chain.continued.Given as goal

abbrev pub invariant-loop-step : goal.invariant-loop-step
invariant-loop-step l = record {
  bundle : continued (map task_of l.agenda.nodes) (l.room - l.step) l.bundle.items ≡ continued (map task_of l.agenda.nodes) l.room l.initial.bundle.items;
  waiting : list_all (is_number_waiting (map task_of l.agenda.nodes)) l.bundle.items ≡ true;
  different : AreDifferent l.bundle.items;
  known : Knows l.chain l.agenda l.bundle.items;
}

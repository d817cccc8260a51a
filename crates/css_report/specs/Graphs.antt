-- The text of a dependence graph.
use Rattle.std.specs.Prelude.{ℕ, List, ◌++◌, codes, flat_map}
use Rattle.std.specs.Fmt.{decimal}
use Rattle.css_report.specs.Calls.{Shown}

-- The line of a task, with its function and the line of its call.
abbrev pub task_line : (number : ℕ) → (name : List ℕ) → (line : ℕ) → List ℕ
task_line number name line = codes "task " ++ decimal number ++ codes " " ++ name ++ codes " line " ++ decimal line ++ codes "\n"

-- The line of an edge: a task reads what a producer made.
abbrev pub edge_line : (number producer : ℕ) → List ℕ
edge_line number producer = codes "edge " ++ decimal producer ++ codes " " ++ decimal number ++ codes "\n"

-- Behind each task's line stand the edges from its producers, in order.
abbrev pub call_lines : Shown → List ℕ
call_lines c = task_line c.number c.name c.line ++ flat_map (edge_line c.number) c.producers

abbrev pub graph_text : List Shown → List ℕ
graph_text calls = flat_map call_lines calls

use Rattle.std.proofs.Common.{◌≡◌, ◌++◌, map, drop}
use Rattle.css_report.specs.Calls.{shown_by, shown}
use Rattle.css_report.specs.Graphs.{graph_text}
use Rattle.css_vm.specs.Code.{code_of}
use Rattle.css_report.proofs.graph.graph_text.Given as goal

-- the text so far, and that of the calls that are left
abbrev pub invariant-loop-call : goal.invariant-loop-call
invariant-loop-call l =
    l.text.items ++ graph_text (map (shown_by (code_of l.value.code.now) l.value.names.now) (drop l.call-index l.value.calls.now)) ≡ graph_text (shown l.value)

use Rattle.std.proofs.Common.{◌≡◌, ◌++◌, map, take}
use Rattle.std.specs.List.{flat_map}
use Rattle.css_traces.specs.declared.trace_line.TraceLine.TheVariants as lines
use Rattle.css_traces.specs.Lines.{line_text}
use Rattle.css_traces.proofs.writing.put_transfers.Given as goal

abbrev pub invariant-loop-transfer : goal.invariant-loop-transfer
invariant-loop-transfer l = l.text.items ≡ l.fn.text.items ++ flat_map line_text (map lines.Transfer (take l.transfer-index l.transfers))

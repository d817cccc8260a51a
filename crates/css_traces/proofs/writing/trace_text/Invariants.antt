use Rattle.std.proofs.Common.{◌≡◌, ◌++◌, drop, codes}
use Rattle.std.specs.List.{flat_map}
use Rattle.css_traces.specs.Lines.{line_text, lines_from}
use Rattle.css_traces.proofs.writing.trace_text.Given as goal

-- the lines so far, and those of the generations that are left
abbrev pub invariant-loop-generation : goal.invariant-loop-generation
invariant-loop-generation l = record {
  counted : l.number ≡ l.generation-index;
  whole : l.text.items ++ flat_map line_text (lines_from l.number (drop l.generation-index l.generation-items))
      ≡ codes "trace\n" ++ flat_map line_text (lines_from 0 l.generation-items);
}

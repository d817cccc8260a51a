use Rattle.std.proofs.Common.{◌≡◌, ◌++◌, take}
use Rattle.std.specs.List.{flat_map}
use Rattle.css_listing.specs.Lines.{line_text, function_lines}
use Rattle.css_listing.proofs.writing.put_functions.Given as goal

abbrev pub invariant-loop-function : goal.invariant-loop-function
invariant-loop-function l = l.text.items ≡ l.fn.text.items ++ flat_map line_text (flat_map function_lines (take l.function-index l.functions))

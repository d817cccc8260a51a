use Rattle.css_arguments.proofs.CallWindows.{WindowsTo}
use Rattle.css_arguments.proofs.call_windows.windows_of.Given as goal

abbrev pub invariant-loop-place : goal.invariant-loop-place
invariant-loop-place l = WindowsTo l.arguments l.place l.windows.items

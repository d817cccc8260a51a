use Rattle.std.proofs.Common.{◌≡◌, [], drop, length}
use Rattle.css_expressions.proofs.Shown.{on}
use Rattle.css_expressions.proofs.formats.shown.Given as goal

abbrev pub invariant-loop-argument : goal.invariant-loop-argument
invariant-loop-argument l =
    on l.table l.line l.all.items l.rest (drop (length l.yielded) l.fn.arguments.items) ≡ on l.table l.line [] l.fn.format l.fn.arguments.items

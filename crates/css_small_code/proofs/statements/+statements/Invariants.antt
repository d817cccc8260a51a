use Rattle.std.proofs.Common.{◌≡◌, ◌++◌, length, drop, map}
use Rattle.css_small.specs.Tree.{listed, function}
use Rattle.css_small_code.specs.Code.{statements_code}
use Rattle.css_small_code.specs.Places.{AllPlaced}
use Rattle.css_small_code.proofs.statements.+statements.Given as goal

abbrev pub invariant-emit_statements-loop-tree : goal.invariant-emit_statements-loop-tree
invariant-emit_statements-loop-tree l =
    let functions = map function l.functions in
    let left = listed (drop l.tree-index l.trees) in
    AllPlaced left
    × (l.code.items ++ statements_code functions left (length l.code.items) ≡ l.initial.code.items ++ statements_code functions (listed l.trees) (length l.initial.code.items))

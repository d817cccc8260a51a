use Rattle.std.proofs.Common.{◌≡◌, ◌++◌, All, map, drop}
use Rattle.css_small.specs.Tree.{function}
use Rattle.css_small.specs.Numbers.{IsNumbered}
use Rattle.css_vm.specs.Code.{routine}
use Rattle.css_small_code.specs.Code.{function_code}
use Rattle.css_small_code.proofs.maker.functions_of.Given as goal

abbrev pub invariant-loop-tree : goal.invariant-loop-tree
invariant-loop-tree l =
    let left = map function (drop l.tree-index l.trees) in
    All (λ f. (f.parameters ≡ 1) × IsNumbered 0 f) left × (map routine l.functions.items ++ map function_code left ≡ map function_code (map function l.trees))

use Rattle.std.proofs.Common.{sym, subst, arith}
use Rattle.css_small.specs.Tree.{function, listed}
use Rattle.css_small_code.specs.Places.{AllPlaced}
use Rattle.css_small_code.proofs.Trees.{function_placed}
use Rattle.css_small_code.proofs.functions.function_of.Goals as goal

pub emit_statements-requires : goal.emit_statements-requires
emit_statements-requires c =
    let f = function c.args.tree.now in
    let placed = function_placed 0 f (omega (arith, c.requires.pointer)) c.requires.numbers in
    subst (λ all. AllPlaced (listed all)) (sym c.deref.ensures.value) placed

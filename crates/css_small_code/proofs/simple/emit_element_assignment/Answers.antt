use Rattle.std.proofs.lemmas.Result.{on_ok_weaker}
use Rattle.css_small.specs.Tree.{expression}
use Rattle.css_small_code.proofs.Emitted.{element_assignment_emitted}
use Rattle.css_small_code.proofs.simple.emit_element_assignment.Goals as goal

pub returns : goal.returns
returns c =
    let i = expression c.args.index.now in
    let e = expression c.args.value.now in
    on_ok_weaker c.emit_all.result (element_assignment_emitted c.args.line c.args.code.now.items _ _ _ i e c.in_ok-emit_element.ensures c.in_ok-emit_expression.ensures) c.emit_all.ensures

use Rattle.std.proofs.lemmas.Result.{on_ok_weaker}
use Rattle.css_small.specs.Tree.{expression}
use Rattle.css_small_code.proofs.Emitted.{element_emitted}
use Rattle.css_small_code.proofs.expressions.emit_element.Goals as goal

pub returns : goal.returns
returns c =
    let e = expression c.args.index.now in
    on_ok_weaker c.emit_all-2.result (element_emitted c.args.line c.args.code.now.items _ _ _ e c.in_ok-emit_all.ensures c.in_ok-emit_expression.ensures) c.emit_all-2.ensures

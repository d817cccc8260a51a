use Rattle.std.proofs.lemmas.Result.{on_ok_weaker}
use Rattle.css_small.specs.Tree.{expression}
use Rattle.css_small_code.proofs.Emitted.{assignment_emitted}
use Rattle.css_small_code.proofs.simple.emit_assignment.Goals as goal

pub returns : goal.returns
returns c =
    let e = expression c.args.value.now in
    on_ok_weaker c.emit_all.result (assignment_emitted c.args.line c.args.code.now.items _ _ _ e c.args.variable c.place_of.result c.place_of.ensures c.in_ok-emit.ensures c.in_ok-emit_expression.ensures) c.emit_all.ensures

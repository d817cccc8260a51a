use Rattle.std.proofs.Common.{[], ◌∷◌}
use Rattle.std.proofs.lemmas.Result.{on_ok_weaker}
use Rattle.css_vm.specs.declared.code.Op.TheVariants as ops
use Rattle.css_small.specs.Tree.{expression}
use Rattle.css_small_code.proofs.Emitted.{ended}
use Rattle.css_small_code.proofs.simple.emit_return.Goals as goal

pub returns : goal.returns
returns c =
    on_ok_weaker c.emit.result (ended c.args.line c.args.code.now.items _ _ (expression c.args.value.now) (ops.Ret ∷ []) c.in_ok-emit_expression.ensures) c.emit.ensures

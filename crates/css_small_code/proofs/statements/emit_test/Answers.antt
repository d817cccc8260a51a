use Rattle.std.proofs.Common.{[], ◌∷◌}
use Rattle.css_vm.specs.declared.code.Op.TheVariants as ops
use Rattle.css_small.specs.Tree.{expression}
use Rattle.css_small_code.proofs.Emitted.{ended}
use Rattle.css_small_code.proofs.statements.emit_test.Goals as goal

pub returns-clause-emits : goal.returns-clause-emits
returns-clause-emits c =
    ended c.args.line c.args.code.now.items _ _ (expression c.args.condition.now) (ops.Jumpz 0 ∷ []) c.in_ok-emit_expression.ensures c.in_ok-emit.ensures

use Rattle.std.proofs.Common.{◌≡◌, Err, ap, subst, ◌∙◌}
use Rattle.css_types.specs.Types.{CType, Pointer, Void}
use Rattle.css_types.specs.Operands.{value}
use Rattle.css_types.specs.Formats.{with_one}
use Rattle.css_operands.specs.Shapes.{operands_of}
use Rattle.css_operands.proofs.Conversions.{passed}
use Rattle.css_expressions.proofs.library.free.Goals as goal

pub returns-in_err-e-clause-broken : goal.returns-in_err-e-clause-broken
returns-in_err-e-clause-broken c = λ f why.
    subst (λ (t : CType). with_one c.args.line t (operands_of c.args.table.now c.args.arguments.items) (λ e. value Void e) ≡ Err f)
    (c.in_ok-pointer.ensures.value c.args.table.now ∙ ap Pointer (c.of_base-void.ensures.value c.args.table.now))
    (c.in_err-e.ensures.broken f (passed c.from_residual-in_err-e.result c.in_err-e.field-0.0 f c.from_residual-in_err-e.ensures.1 why) (λ e. value Void e))

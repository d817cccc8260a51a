use Rattle.std.proofs.Common.{◌≡◌, Err, subst}
use Rattle.css_core.specs.Core.{Allocate}
use Rattle.css_types.specs.Types.{CType, Pointer, Void}
use Rattle.css_types.specs.Operands.{value}
use Rattle.css_types.specs.Formats.{with_one}
use Rattle.css_operands.specs.Shapes.{operands_of}
use Rattle.css_operands.proofs.Conversions.{passed}
use Rattle.css_expressions.proofs.library.malloc.Goals as goal

pub returns-in_err-size-clause-broken : goal.returns-in_err-size-clause-broken
returns-in_err-size-clause-broken c = λ f why.
    subst (λ (t : CType). with_one c.args.line t (operands_of c.args.table.now c.args.arguments.items) (λ e. value (Pointer Void) (Allocate e)) ≡ Err f)
    (c.integer.ensures.value c.args.table.now)
    (c.in_err-size.ensures.broken f (passed c.from_residual-in_err-size.result c.in_err-size.field-0.0 f c.from_residual-in_err-size.ensures.1 why) (λ e. value (Pointer Void) (Allocate e)))

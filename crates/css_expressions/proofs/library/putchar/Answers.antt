use Rattle.std.proofs.Common.{◌≡◌, Err, subst}
use Rattle.css_base.specs.declared.int_type.IntType.TheVariants.{Int}
use Rattle.css_core.specs.Core.{Put}
use Rattle.css_types.specs.Types.{CType, Integer}
use Rattle.css_types.specs.Operands.{value}
use Rattle.css_types.specs.Formats.{with_one}
use Rattle.css_operands.specs.Shapes.{operands_of}
use Rattle.css_operands.proofs.Conversions.{passed}
use Rattle.css_expressions.proofs.library.putchar.Goals as goal

pub returns-in_err-byte-clause-broken : goal.returns-in_err-byte-clause-broken
returns-in_err-byte-clause-broken c = λ f why.
    subst (λ (t : CType). with_one c.args.line t (operands_of c.args.table.now c.args.arguments.items) (λ e. value (Integer Int) (Put e)) ≡ Err f)
    (c.integer-int.ensures.value c.args.table.now)
    (c.in_err-byte.ensures.broken f (passed c.from_residual.result c.in_err-byte.field-0.0 f c.from_residual.ensures.1 why) (λ e. value (Integer Int) (Put e)))

use Rattle.std.proofs.Common.{◌≡◌, sym, ap, ◌∙◌, false}
use Rattle.css_base.specs.declared.int_type.IntType.{IntType}
use Rattle.css_core.specs.Core.{Expression, Convert}
use Rattle.css_core.specs.Shapes.{expression}
use Rattle.css_types.specs.Shapes.{constant}
use Rattle.css_types.specs.Types.{core_type, is_void}
use Rattle.css_types.specs.Constants.{Constant}
use Rattle.css_types.specs.Operands.{IsValue, integer_constant, cast_constant}
use Rattle.css_type_table.specs.Flat.{ctype}
use Rattle.css_operands.specs.Shapes.{operand}
use Rattle.css_operands.proofs.Casts.{cast_to_object}
use Rattle.css_operands.proofs.unary.cast_to.Goals as goal

pub returns : goal.returns
returns c =
    let t = ctype c.args.table.now c.args.t in
    let a = operand c.args.table.now c.args.a in
    let other : is_void t ≡ false = sym c.is_void.ensures ∙ c.if-is_void.false in
    let k : constant c.cast_constant-constant.result ≡ cast_constant t (integer_constant a) = c.cast_constant-constant.ensures ∙ ap (cast_constant t) c.integer_constant.ensures in
    let e : expression c.in_ok-e.e.value ≡ Convert (core_type t) (expression c.args.a.e.value) =
    c.in_ok-e.ensures ∙ ap (λ (s : IntType). Convert s (expression c.args.a.e.value)) c.core_type.ensures in
    ap (λ (k : Constant). record { t = t; form = IsValue; constant = k; e = expression c.in_ok-e.e.value }) k
    ∙ ap (λ (e : Expression). record { t = t; form = IsValue; constant = cast_constant t (integer_constant a); e = e }) e
    ∙ sym (cast_to_object t a other)

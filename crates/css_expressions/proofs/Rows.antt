-- The core's expressions with lists of arguments.
use Rattle.std.proofs.Common.{◌≡◌, ℕ, Vec, Global, map, refl, ap, ◌∙◌}
use mathlib.Core.Former.{Count}
use Rattle.css_core.specs.declared.expression.Expression as code
use Rattle.css_core.specs.declared.expression.Piece.{Piece}
use Rattle.css_core.specs.Core.{Call, Print, More}
use Rattle.css_core.specs.Shapes.{expression, in_row, listed, piece}

abbrev called_row : code.Expression → (n : Count) × code.Row_of-Expression n
called_row (code.Call' f shape row) = (_, row)
called_row _ = (_, code.end_of-Expression)

abbrev printed_row : code.Expression → (n : Count) × code.Row_of-Expression n
printed_row (code.Print' format shape row) = (_, row)
printed_row _ = (_, code.end_of-Expression)

of_row : (n : Count) (row : code.Row_of-Expression n) → in_row row ≡ listed (code.items-the_row-Expression n row)
of_row n code.end_of-Expression = refl
of_row n (code.more_of-Expression e rest) = ap (More (expression e)) (of_row _ rest)

pub expression_call : (f : ℕ) (all : Vec code.Expression Global) → expression (code.Call f all) ≡ Call f (listed all.items)
expression_call f all =
    let row = called_row (code.Call f all) in
    ap (Call f) (of_row row.0 row.1 ∙ ap listed (code.items_hidden-the_row-Expression-0 all))

pub expression_print : (format : Vec Piece Global) (all : Vec code.Expression Global) → expression (code.Print format all) ≡ Print (map piece format.items) (listed all.items)
expression_print format all =
    let row = printed_row (code.Print format all) in
    ap (Print (map piece format.items)) (of_row row.0 row.1 ∙ ap listed (code.items_hidden-the_row-Expression-0 all))

-- Calls and casts as the code holds them.
use Rattle.std.proofs.Common.{◌≡◌, ℕ, List, Vec, Global, refl, sym, ap, ◌∙◌}
use mathlib.Core.Former.{Count}
use Rattle.css_tree.specs.declared.expression.Expression as code
use Rattle.css_tree.specs.declared.words.TypeName as coded
use Rattle.css_tree.specs.Syntax.{Call, More}
use Rattle.css_tree.specs.Shapes.{expression, expressions, listed, type_name}
use Rattle.css_types.specs.Scopes.{Scope}
use Rattle.css_types.specs.Judged.{Judged, after}
use Rattle.css_types.specs.Operands.{Operand, cast}
use Rattle.css_types.specs.Expressions.{operand_of, as_value, typed_by}

abbrev row_of : code.Expression → (n : Count) × code.Row_of-Expression n
row_of (code.Call' line name shape row) = (_, row)
row_of _ = (_, code.end_of-Expression)

of_row : (n : Count) (row : code.Row_of-Expression n) → expressions row ≡ listed (code.items-the_row-Expression n row)
of_row n code.end_of-Expression = refl
of_row n (code.more_of-Expression e rest) = ap (More (expression e)) (of_row _ rest)

expression_call : (line : ℕ) (name : List ℕ) (all : Vec code.Expression Global) → expression (code.Call line name all) ≡ Call line name (listed all.items)
expression_call line name all =
    let row = row_of (code.Call line name all) in
    ap (Call line name) (of_row row.0 row.1 ∙ ap listed (code.items_hidden-the_row-Expression-0 all))

pub call_is : (scope : Scope) (line : ℕ) (t : code.Expression) (at : ℕ) (name : List ℕ) (all : Vec code.Expression Global) (n : List ℕ) (es : List code.Expression)
    → t ≡ code.Call at name all → n ≡ name → es ≡ all.items
    → operand_of scope line (expression t) ≡ operand_of scope line (Call line n (listed es))
call_is scope line t at name all n es is named lists =
    ap (λ s. operand_of scope line (expression s)) is
    ∙ ap (operand_of scope line) (expression_call at name all)
    ∙ ap (λ m. operand_of scope line (Call line m (listed all.items))) (sym named)
    ∙ ap (λ l. operand_of scope line (Call line n (listed l))) (sym lists)

-- what is read of a cast
abbrev pub cast_read : Scope → (line : ℕ) → coded.TypeName → code.Expression → Judged Operand
cast_read scope line to e = after (typed_by line (type_name to)) (λ t. after (as_value (operand_of scope line (expression e))) (cast line t))

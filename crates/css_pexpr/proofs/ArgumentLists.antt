-- A call's arguments as a list.
use Rattle.std.proofs.Common.{◌≡◌, ℕ, ◌+◌, max, List, [], ◌∷◌, ◌++◌, map, refl, sym, ap, ◌∙◌, arith, Vec, Global}
use mathlib.Core.Former.{Count}
use Rattle.css_tree.specs.declared.expression.Expression as coded
use Rattle.css_tree.specs.Syntax.{Expression, Call, More}
use Rattle.css_tree.specs.Shapes.{expression, expressions}
use Rattle.css_tree.specs.Heights.{height, height_of_arguments}
use Rattle.css_pexpr.specs.Arguments.{in_order}

abbrev row_of : coded.Expression → (n : Count) × coded.Row_of-Expression n
row_of (coded.Call' line name shape row) = (_, row)
row_of _ = (_, coded.end_of-Expression)

expressions-row : (n : Count) (row : coded.Row_of-Expression n) → expressions row ≡ in_order (map expression (coded.items-the_row-Expression n row))
expressions-row n coded.end_of-Expression = refl
expressions-row n (coded.more_of-Expression e rest) = ap (More (expression e)) (expressions-row _ rest)

pub expression-Call : (line : ℕ) (name : List ℕ) (all : Vec coded.Expression Global) → expression (coded.Call line name all) ≡ Call line name (in_order (map expression all.items))
expression-Call line name all =
    let row = row_of (coded.Call line name all) in
    ap (Call line name) (expressions-row row.0 row.1 ∙ ap (λ l. in_order (map expression l)) (coded.items_hidden-the_row-Expression-0 all))

pub height-last : (es : List Expression) (e : Expression) → height_of_arguments (in_order (es ++ e ∷ [])) ≡ max (height_of_arguments (in_order es)) (height e)
height-last [] e = omega arith
height-last (x ∷ es) e = let h = height-last es e in omega arith

-- Arguments in order.
use Rattle.std.specs.Prelude.{List, [], ◌∷◌}
use Rattle.css_tree.specs.Syntax.{Expression, Expressions, End, More}

abbrev pub in_order : List Expression → Expressions
in_order [] = End
in_order (e ∷ es) = More e (in_order es)

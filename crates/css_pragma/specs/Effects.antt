-- Expressions that do more than give a value.
use Rattle.std.specs.Prelude.{Bool, true, false, ◌||◌}
use Rattle.std.specs.List.{list_any}
use Rattle.css_tree.specs.Syntax.{Expression, Comma, Assign, Conditional, Binary, Cast, PreIncrement, PreDecrement, Unary, SizeofExpression, SizeofType, Index, PostIncrement, PostDecrement, Call, Name, Number, Text}
use Rattle.css_tree.specs.Syntax.{Argument, Plain, Strided, Clause, Arguments, HighPriority, Directive, Start, Finish, Barrier, Wait, Task}

-- It holds an assignment, `++`, `--` or a call, also under `sizeof`.
abbrev pub has_effect : Expression → Bool
has_effect (Assign line place op value) = true
has_effect (PreIncrement line a) = true
has_effect (PreDecrement line a) = true
has_effect (PostIncrement line a) = true
has_effect (PostDecrement line a) = true
has_effect (Call line name all) = true
has_effect (Comma line a b) = has_effect a || has_effect b
has_effect (Conditional line a b c) = has_effect a || (has_effect b || has_effect c)
has_effect (Binary line a op b) = has_effect a || has_effect b
has_effect (Index line a b) = has_effect a || has_effect b
has_effect (Cast line type a) = has_effect a
has_effect (Unary line op a) = has_effect a
has_effect (SizeofExpression line a) = has_effect a
has_effect (SizeofType line type) = false
has_effect (Name line name) = false
has_effect (Number line type value) = false
has_effect (Text line bytes) = false

-- a dimension, or one of the three numbers of a block
abbrev pub argument_has_effect : Argument → Bool
argument_has_effect (Plain name sizes) = list_any has_effect sizes
argument_has_effect (Strided name rows width stride) = has_effect rows || (has_effect width || has_effect stride)

abbrev pub clause_has_effect : Clause → Bool
clause_has_effect (Arguments direction all) = list_any argument_has_effect all
clause_has_effect HighPriority = false

-- an expression of the directive does
abbrev pub directive_has_effect : Directive → Bool
directive_has_effect (Wait line addresses) = list_any has_effect addresses
directive_has_effect (Task line clauses) = list_any clause_has_effect clauses
directive_has_effect (Start line) = false
directive_has_effect (Finish line) = false
directive_has_effect (Barrier line) = false

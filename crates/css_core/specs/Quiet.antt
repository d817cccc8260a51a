-- Expressions without effect.
use Rattle.std.specs.Prelude.{Bool, false, true, ◌&&◌, IsTrue}
use Rattle.css_core.specs.Core.{Expression, Number, Local, Given, Value, Assign, Update, Convert, Unary, Binary, And, Or, Choice, Sequence, Call, Input, Put, Print, Allocate, Expressions, Empty, More}

-- it does nothing but load, as the expressions of waits
abbrev pub is_quiet : Expression → Bool
is_quiet (Number value) = true
is_quiet (Local offset) = true
is_quiet (Given k) = true
is_quiet (Value t place) = is_quiet place
is_quiet (Assign t place e) = false
is_quiet (Update gives t op within place e) = false
is_quiet (Convert t e) = is_quiet e
is_quiet (Unary op t e) = is_quiet e
is_quiet (Binary op t a b) = is_quiet a && is_quiet b
is_quiet (And a b) = is_quiet a && is_quiet b
is_quiet (Or a b) = is_quiet a && is_quiet b
is_quiet (Choice test a b) = is_quiet test && (is_quiet a && is_quiet b)
is_quiet (Sequence a b) = is_quiet a && is_quiet b
is_quiet (Call function arguments) = false
is_quiet Input = false
is_quiet (Put e) = false
is_quiet (Print format arguments) = false
is_quiet (Allocate size) = false

-- it asks nothing and names no object of the frame: it is computed from constants and from the arguments of a task's call
abbrev pub is_computed : Expression → Bool
is_computed (Number value) = true
is_computed (Local offset) = false
is_computed (Given k) = true
is_computed (Value t place) = false
is_computed (Assign t place e) = false
is_computed (Update gives t op within place e) = false
is_computed (Convert t e) = is_computed e
is_computed (Unary op t e) = is_computed e
is_computed (Binary op t a b) = is_computed a && is_computed b
is_computed (And a b) = is_computed a && is_computed b
is_computed (Or a b) = is_computed a && is_computed b
is_computed (Choice test a b) = is_computed test && (is_computed a && is_computed b)
is_computed (Sequence a b) = is_computed a && is_computed b
is_computed (Call function arguments) = false
is_computed Input = false
is_computed (Put e) = false
is_computed (Print format arguments) = false
is_computed (Allocate size) = false

abbrev pub AreQuiet : Expressions → Type 0
AreQuiet Empty = Unit {0}
AreQuiet (More e others) = IsTrue (is_quiet e) × AreQuiet others

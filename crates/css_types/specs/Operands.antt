-- What each operator makes of its operands: the types that it allows (C99 6.5), its type, and the core expression that it is.
use Rattle.std.specs.Prelude.{ℕ, pos, Bool, true, false, ◌&&◌, ◌||◌, not, List, [], ◌∷◌, Option, Some, None, Ok, if◌then◌else◌}
use Rattle.css_base.specs.declared.int_type.IntType.{IntType}
use Rattle.css_base.specs.declared.int_type.IntType.TheVariants.{Int, UInt}
use Rattle.css_base.specs.declared.static_fault.StaticName.TheVariants.{Undeclared, TypeMismatch, NotAnObject}
use Rattle.css_num.specs.declared.operators.UnOp.{UnOp}
use Rattle.css_num.specs.declared.operators.UnOp.TheVariants as unary
use Rattle.css_num.specs.declared.operators.BinOp.{BinOp}
use Rattle.css_num.specs.declared.operators.BinOp.TheVariants as binary
use Rattle.css_num.specs.Usual.{promoted, usual_type}
use Rattle.css_tree.specs.declared.operators.UnaryOperator.{UnaryOperator}
use Rattle.css_tree.specs.declared.operators.UnaryOperator.TheVariants as unaries
use Rattle.css_tree.specs.declared.operators.BinaryOperator.{BinaryOperator}
use Rattle.css_tree.specs.declared.operators.BinaryOperator.TheVariants as binaries
use Rattle.css_tree.specs.declared.operators.AssignOperator.{AssignOperator}
use Rattle.css_tree.specs.declared.operators.AssignOperator.TheVariants as assignments
use Rattle.css_core.specs.Core.{Expression, Number, Given, Value, Assign, Convert, Binary, And, Or, Choice, Sequence, Call, Expressions, Empty, More, Gives, New}
use Rattle.css_core.specs.Elaboration as core
use Rattle.css_types.specs.Types.{CType, Void, Integer, Pointer, Array, size_of, core_type, is_void, is_integer, is_scalar, is_array, is_same}
use Rattle.css_types.specs.Judged.{Judged, broken, after, provided, expected}
use Rattle.css_types.specs.Constants.{Constant, Varies, Known, constant_in, constant_unary, constant_binary, decided, chosen, is_zero}
use Rattle.css_types.specs.Scopes.{address_at, Meaning, Object, Parameter, Function}

-- what a core expression gives: the value itself, or the address of a place where it lies. What a task is given for a parameter is a value
-- too, and counts as a place for the rules.
pub data Form : Type 0 where
  IsValue : Form
  IsPlace : Form
  IsGiven : Form

-- An expression with its type. An array is a place.
pub record Operand : Type 0 where
  pub t : CType
  pub form : Form
  pub constant : Constant
  pub e : Expression

abbrev pub place : CType → Expression → Operand
place t e = record { t = t; form = IsPlace; constant = Varies; e = e }

abbrev pub value : CType → Expression → Operand
value t e = record { t = t; form = IsValue; constant = Varies; e = e }

-- an operand of an integer type for the core's words
abbrev pub in_core : Operand → core.Operand
in_core a = record { t = core_type a.t; e = a.e }

-- a constant of the text
abbrev pub number : IntType → ℕ → Operand
number t v = record { t = Integer t; form = IsValue; constant = Known (pos v); e = Number (pos v) }

-- what the core's words make of integers
abbrev pub integer : core.Operand → Constant → Operand
integer a k = record { t = Integer a.t; form = IsValue; constant = k; e = a.e }

-- the value of an integer constant expression; a pointer is none, also where it is a null constant
abbrev pub integer_constant : Operand → Constant
integer_constant a = if is_integer a.t then a.constant else Varies

-- ---- values of places

-- an array becomes a pointer to its first element, and another place what lies there (C99 6.3.2.1)
abbrev pub loaded : CType → Expression → Operand
loaded (Array count bytes t) e = value (Pointer t) e
loaded t e = value t (Value (core_type t) e)

abbrev pub value_by : Form → Operand → Operand
value_by IsValue a = a
value_by IsPlace a = loaded a.t a.e
value_by IsGiven a = value a.t a.e

abbrev pub value_of : Operand → Operand
value_of a = value_by a.form a

abbrev pub is_place : Form → Bool
is_place IsValue = false
is_place IsPlace = true
is_place IsGiven = true

-- an integer constant 0, also cast to a pointer to void
abbrev pub is_null : CType → Constant → Bool
is_null (Integer t) k = is_zero k
is_null (Pointer Void) k = is_zero k
is_null t k = false

-- pointers that may stand for one another: to one type, or one of them to void
abbrev pub are_alike : CType → CType → Bool
are_alike s t = is_void s || is_void t || is_same s t

abbrev pub is_pointer_for : (to : CType) → CType → Bool
is_pointer_for to (Pointer t) = are_alike to t
is_pointer_for to t = false

-- what an assignment, an argument, a return or an initialiser converts: a value to a type
abbrev pub is_convertible : (to : CType) → Operand → Bool
is_convertible (Integer t) a = is_integer a.t
is_convertible (Pointer to) a = is_null a.t a.constant || is_pointer_for to a.t
is_convertible t a = false

abbrev pub converted_to : (line : ℕ) → CType → Operand → Judged Expression
converted_to line t a = provided (is_convertible t a) TypeMismatch line (Ok (Convert (core_type t) a.e))

-- ---- operators with one operand

-- C99 6.5.3.3
abbrev pub on_integer : (line : ℕ) → UnOp → Operand → Judged Operand
on_integer line op a = provided (is_integer a.t) TypeMismatch line
    (Ok (integer (core.unary_of op (in_core a)) (constant_unary op (promoted (core_type a.t)) a.constant)))

abbrev pub negation : (line : ℕ) → Operand → Judged Operand
negation line a = provided (is_scalar a.t) TypeMismatch line
    (Ok (integer (core.unary_of unary.Not (in_core a)) (constant_unary unary.Not (core_type a.t) (integer_constant a))))

-- C99 6.5.3.2: what a pointer points to
abbrev pub pointed : (line : ℕ) → CType → Expression → Judged Operand
pointed line (Pointer t) e = provided (not (is_void t)) TypeMismatch line (Ok (place t e))
pointed line t e = broken TypeMismatch line

-- The rules on tasks refuse `&` of what a task is given, so its core expression is never used.
abbrev pub address_in : Form → Expression → Expression
address_in IsGiven e = Number (pos 0)
address_in form e = e

abbrev pub address_of : (line : ℕ) → Operand → Judged Operand
address_of line a = provided (is_place a.form) NotAnObject line (Ok (value (Pointer a.t) (address_in a.form a.e)))

-- an operator on an operand, which is a value but for `&`
abbrev pub unary_operand : (line : ℕ) → UnaryOperator → Operand → Judged Operand
unary_operand line unaries.AddressOf a = address_of line a
unary_operand line unaries.Dereference a = let v = value_of a in pointed line v.t v.e
unary_operand line unaries.Plus a = on_integer line unary.Plus (value_of a)
unary_operand line unaries.Minus a = on_integer line unary.Minus (value_of a)
unary_operand line unaries.Complement a = on_integer line unary.Complement (value_of a)
unary_operand line unaries.Not a = negation line (value_of a)

-- a cast to an integer type of an integer constant is one, and so is that of 0 to a pointer to void a null constant
abbrev pub cast_constant : CType → Constant → Constant
cast_constant (Integer t) k = constant_in t k
cast_constant (Pointer Void) k = k
cast_constant t k = Varies

-- a cast allows integers and pointers in all pairs, and to void (C99 6.5.4)
abbrev pub is_castable : (to : CType) → CType → Bool
is_castable Void t = true
is_castable to t = is_scalar to && is_scalar t

abbrev pub cast_to : CType → Operand → Operand
cast_to Void a = value Void a.e
cast_to t a = record { t = t; form = IsValue; constant = cast_constant t (integer_constant a); e = Convert (core_type t) a.e }

abbrev pub cast : (line : ℕ) → CType → Operand → Judged Operand
cast line t a = provided (is_castable t a.t) TypeMismatch line (Ok (cast_to t a))

abbrev pub size_operand : (line : ℕ) → CType → Judged Operand
size_operand line t = provided (not (is_void t)) TypeMismatch line (Ok (integer (core.size_of (size_of t)) (Known (pos (size_of t)))))

-- ---- operators with two operands, which are values

-- C99 6.5.5, 6.5.7 and 6.5.10 to 6.5.12
abbrev pub binary_constant : BinOp → IntType → IntType → Constant → Constant → Constant
binary_constant binary.Shl s t j k = constant_binary binary.Shl (promoted s) (promoted t) j k
binary_constant binary.Shr s t j k = constant_binary binary.Shr (promoted s) (promoted t) j k
binary_constant op s t j k = constant_binary op (usual_type s t) (usual_type s t) j k

abbrev pub arithmetic : BinOp → Operand → Operand → Operand
arithmetic op a b = integer (core.binary_of op (in_core a) (in_core b)) (binary_constant op (core_type a.t) (core_type b.t) a.constant b.constant)

abbrev pub on_integers : (line : ℕ) → BinOp → Operand → Operand → Judged Operand
on_integers line op a b = provided (is_integer a.t && is_integer b.t) TypeMismatch line (Ok (arithmetic op a b))

-- C99 6.5.6: a pointer is moved by elements
abbrev pub moved : (line : ℕ) → (to : CType) → Expression → Judged Operand
moved line to e = provided (not (is_void to)) TypeMismatch line (Ok (value (Pointer to) e))

abbrev pub sum : (line : ℕ) → (s t : CType) → Operand → Operand → Judged Operand
sum line (Pointer to) (Integer t) a b = moved line to (core.moved binary.Add (size_of to) a.e (in_core b)).e
sum line (Integer s) (Pointer to) a b = moved line to (Binary binary.Add UInt (core.scaled (size_of to) (in_core a)) b.e)
sum line s t a b = on_integers line binary.Add a b

abbrev pub difference : (line : ℕ) → (s t : CType) → Operand → Operand → Judged Operand
difference line (Pointer to) (Integer t) a b = moved line to (core.moved binary.Sub (size_of to) a.e (in_core b)).e
difference line (Pointer to) (Pointer to') a b =
    provided (is_same to to' && not (is_void to)) TypeMismatch line (Ok (integer (core.difference (size_of to) a.e b.e) Varies))
difference line s t a b = on_integers line binary.Sub a b

-- C99 6.5.8: integers, or pointers to one type
abbrev pub are_ordered : CType → CType → Bool
are_ordered (Pointer s) (Pointer t) = is_same s t
are_ordered s t = false

abbrev pub relation : (line : ℕ) → BinOp → Operand → Operand → Judged Operand
relation line op a b =
    if is_integer a.t && is_integer b.t then Ok (arithmetic op a b)
    else provided (are_ordered a.t b.t) TypeMismatch line (Ok (integer (core.compared op a.e b.e) Varies))

-- C99 6.5.9: a pointer also with one to void or a null constant
abbrev pub are_equatable : Operand → Operand → Bool
are_equatable a b = is_convertible a.t b || is_convertible b.t a

abbrev pub as_address : Operand → Expression
as_address a = Convert UInt a.e

abbrev pub equality : (line : ℕ) → BinOp → Operand → Operand → Judged Operand
equality line op a b =
    if is_integer a.t && is_integer b.t then Ok (arithmetic op a b)
    else provided (are_equatable a b) TypeMismatch line (Ok (integer (core.compared op (as_address a) (as_address b)) Varies))

-- C99 6.5.13 and 6.5.14
abbrev pub decision : Bool → Expression → Operand → Operand → Operand
decision by e a b = record { t = Integer Int; form = IsValue; constant = decided by (integer_constant a) (integer_constant b); e = e }

abbrev pub conjunction : (line : ℕ) → Operand → Operand → Judged Operand
conjunction line a b = provided (is_scalar a.t && is_scalar b.t) TypeMismatch line (Ok (decision false (And a.e b.e) a b))

abbrev pub disjunction : (line : ℕ) → Operand → Operand → Judged Operand
disjunction line a b = provided (is_scalar a.t && is_scalar b.t) TypeMismatch line (Ok (decision true (Or a.e b.e) a b))

abbrev pub binary_operand : (line : ℕ) → BinaryOperator → Operand → Operand → Judged Operand
binary_operand line binaries.Multiply a b = on_integers line binary.Mul a b
binary_operand line binaries.Divide a b = on_integers line binary.Div a b
binary_operand line binaries.Remainder a b = on_integers line binary.Rem a b
binary_operand line binaries.Add a b = sum line a.t b.t a b
binary_operand line binaries.Subtract a b = difference line a.t b.t a b
binary_operand line binaries.ShiftLeft a b = on_integers line binary.Shl a b
binary_operand line binaries.ShiftRight a b = on_integers line binary.Shr a b
binary_operand line binaries.Less a b = relation line binary.Lt a b
binary_operand line binaries.Greater a b = relation line binary.Gt a b
binary_operand line binaries.LessOrEqual a b = relation line binary.Le a b
binary_operand line binaries.GreaterOrEqual a b = relation line binary.Ge a b
binary_operand line binaries.Equal a b = equality line binary.Eq a b
binary_operand line binaries.NotEqual a b = equality line binary.Ne a b
binary_operand line binaries.BitAnd a b = on_integers line binary.And a b
binary_operand line binaries.BitXor a b = on_integers line binary.Xor a b
binary_operand line binaries.BitOr a b = on_integers line binary.Or a b
binary_operand line binaries.And a b = conjunction line a b
binary_operand line binaries.Or a b = disjunction line a b

-- C99 6.5.2.1: `a[i]` is `*(a + i)`
abbrev pub indexed : (line : ℕ) → Operand → Operand → Judged Operand
indexed line a i = after (sum line a.t i.t a i) (λ p. pointed line p.t p.e)

-- C99 6.5.17
abbrev pub sequence : Operand → Operand → Operand
sequence a b = value b.t (Sequence a.e b.e)

-- ---- the conditional (C99 6.5.15)

-- of pointers that may be compared: one to void wins unless it is null
abbrev pub common_pointer : CType → CType → (first_null second_null : Bool) → CType
common_pointer (Integer s) t first second = t
common_pointer s (Integer t) first second = s
common_pointer (Pointer Void) t first second = if first then t else Pointer Void
common_pointer s (Pointer Void) first second = if second then s else Pointer Void
common_pointer s t first second = s

abbrev pub chosen_type : CType → CType → Operand → Operand → Option CType
chosen_type (Integer s) (Integer t) a b = Some (Integer (usual_type s t))
chosen_type Void Void a b = Some Void
chosen_type s t a b = if are_equatable a b then Some (common_pointer s t (is_null s a.constant) (is_null t b.constant)) else None

-- a choice between integer constants is one
abbrev pub choice_constant : CType → Operand → Operand → Operand → Constant
choice_constant (Integer t) c a b = chosen (integer_constant c) (constant_in t (integer_constant a)) (constant_in t (integer_constant b))
choice_constant t c a b = Varies

abbrev pub choice : CType → Operand → Operand → Operand → Operand
choice t c a b = record {
  t = t;
  form = IsValue;
  constant = choice_constant t c a b;
  e = Choice c.e (Convert (core_type t) a.e) (Convert (core_type t) b.e);
}

abbrev pub conditional : (line : ℕ) → Operand → Operand → Operand → Judged Operand
conditional line c a b =
    provided (is_scalar c.t) TypeMismatch line
    (after (expected TypeMismatch line (chosen_type a.t b.t a b)) (λ t. Ok (choice t c a b)))

-- ---- assignments

-- the type of a place's value
abbrev pub value_type : CType → CType
value_type (Array count bytes t) = Pointer t
value_type t = t

-- what is assigned to: a place that is no array
abbrev pub is_assignable : Operand → Bool
is_assignable a = is_place a.form && not (is_array a.t)

-- C99 6.5.16.1. At one construct the type rule comes before the rule on places.
abbrev pub assigned : (line : ℕ) → (place : Operand) → Operand → Judged Operand
assigned line p a =
    after (converted_to line (value_type p.t) a) (λ e.
    provided (is_assignable p) NotAnObject line (Ok (value p.t (Assign (core_type p.t) p.e e))))

-- what `op=`, `++` and `--` make of a place, where its type and that of the right side allow them
abbrev pub updated : (line : ℕ) → Operand → Expression → Judged Operand
updated line p e = provided (is_assignable p) NotAnObject line (Ok (value p.t e))

abbrev pub is_moving : BinOp → Bool
is_moving binary.Add = true
is_moving binary.Sub = true
is_moving op = false

-- C99 6.5.16.2, by the types of the place's value and of the right side
abbrev pub updated_by : (line : ℕ) → BinOp → (s t : CType) → (place : Operand) → Operand → Judged Operand
updated_by line op (Integer s) (Integer t) p a = updated line p (core.updated New s op p.e (in_core a)).e
updated_by line op (Pointer to) (Integer t) p a =
    provided (is_moving op && not (is_void to)) TypeMismatch line (updated line p (core.moved_at New op (size_of to) p.e (in_core a)).e)
updated_by line op s t p a = broken TypeMismatch line

abbrev pub assignment : (line : ℕ) → AssignOperator → (place : Operand) → Operand → Judged Operand
assignment line assignments.Assign p a = assigned line p a
assignment line assignments.Multiply p a = updated_by line binary.Mul (value_type p.t) a.t p a
assignment line assignments.Divide p a = updated_by line binary.Div (value_type p.t) a.t p a
assignment line assignments.Remainder p a = updated_by line binary.Rem (value_type p.t) a.t p a
assignment line assignments.Add p a = updated_by line binary.Add (value_type p.t) a.t p a
assignment line assignments.Subtract p a = updated_by line binary.Sub (value_type p.t) a.t p a
assignment line assignments.ShiftLeft p a = updated_by line binary.Shl (value_type p.t) a.t p a
assignment line assignments.ShiftRight p a = updated_by line binary.Shr (value_type p.t) a.t p a
assignment line assignments.BitAnd p a = updated_by line binary.And (value_type p.t) a.t p a
assignment line assignments.BitXor p a = updated_by line binary.Xor (value_type p.t) a.t p a
assignment line assignments.BitOr p a = updated_by line binary.Or (value_type p.t) a.t p a

-- C99 6.5.2.4 and 6.5.3.1
abbrev pub stepped_by : (line : ℕ) → Gives → BinOp → CType → (place : Operand) → Judged Operand
stepped_by line gives op (Integer t) p = updated line p (core.stepped gives op t p.e).e
stepped_by line gives op (Pointer to) p =
    provided (not (is_void to)) TypeMismatch line (updated line p (core.moved_at gives op (size_of to) p.e core.one).e)
stepped_by line gives op t p = broken TypeMismatch line

abbrev pub stepped : (line : ℕ) → Gives → BinOp → (place : Operand) → Judged Operand
stepped line gives op p = stepped_by line gives op (value_type p.t) p

-- ---- names and calls

abbrev pub meant : (line : ℕ) → Meaning → Judged Operand
meant line (Object t at) = Ok (place t (address_at at))
meant line (Parameter t k) = Ok (record { t = t; form = IsGiven; constant = Varies; e = Given k })
meant line (Function number parameters result) = broken TypeMismatch line

-- each argument is converted to its parameter's type; one too many or too few breaks the type rule too
abbrev pub converted_arguments : (line : ℕ) → List CType → List Operand → Judged Expressions
converted_arguments line [] [] = Ok Empty
converted_arguments line (t ∷ types) (a ∷ arguments) =
    after (converted_to line t a) (λ e. after (converted_arguments line types arguments) (λ others. Ok (More e others)))
converted_arguments line types arguments = broken TypeMismatch line

-- what is called has to be a function, and one that is defined
abbrev pub called : (line : ℕ) → Meaning → List Operand → Judged Operand
called line (Function (Some number) parameters result) arguments =
    after (converted_arguments line parameters arguments) (λ es. Ok (value result (Call number es)))
called line (Function None parameters result) arguments = broken Undeclared line
called line other arguments = broken TypeMismatch line

-- Punctuators before and behind operands, and the words of types.
use Rattle.std.specs.Prelude.{ℕ, List, [], ◌∷◌, codes, Bool, true, false, Option, Some, None, option_and_then, find, bytes_eq, if◌then◌else◌}
use Rattle.css_tree.specs.declared.scope.Scope.{Scope}
use Rattle.css_tree.specs.declared.scope.Scope.TheVariants as scopes
use Rattle.css_tree.specs.declared.words.Specifier.{Specifier}
use Rattle.css_tree.specs.declared.words.Specifier.TheVariants as specifiers
use Rattle.css_tree.specs.declared.words.Qualifier.{Qualifier}
use Rattle.css_tree.specs.declared.words.Qualifier.TheVariants as qualifiers
use Rattle.css_tree.specs.declared.operators.UnaryOperator.TheVariants as unaries
use Rattle.css_tree.specs.declared.operators.BinaryOperator.TheVariants as binaries
use Rattle.css_tree.specs.declared.operators.AssignOperator.TheVariants as assignments
use Rattle.css_tree.specs.Words.{specifier_text, qualifier_text}
use Rattle.css_tree.specs.Expressions.{unary_text, binary_text, assign_text, level_of, expr, assign, cond, lor, cast, unary}
use Rattle.css_pexpr.specs.declared.prefix.Prefix.{Prefix}
use Rattle.css_pexpr.specs.declared.prefix.Prefix.TheVariants as prefixes
use Rattle.css_pexpr.specs.declared.prefix.Lead.{Lead}
use Rattle.css_pexpr.specs.declared.prefix.Lead.TheVariants as leads
use Rattle.css_pexpr.specs.declared.follow.Joint.{Joint}
use Rattle.css_pexpr.specs.declared.follow.Joint.TheVariants as joints
use Rattle.css_pexpr.specs.declared.follow.Follow.{Follow}
use Rattle.css_pexpr.specs.declared.follow.Follow.TheVariants as follows

-- ---- before an operand

abbrev pub prefix_text : Prefix → List ℕ
prefix_text prefixes.Increment = codes "++"
prefix_text prefixes.Decrement = codes "--"
prefix_text prefixes.Sizeof = codes "sizeof"
prefix_text (prefixes.Operator op) = unary_text op

abbrev pub lead_text : Lead → List ℕ
lead_text (leads.Prefix op) = prefix_text op
lead_text leads.Open = codes "("
lead_text leads.Close = codes ")"

abbrev pub leading : List Lead
leading =
    leads.Prefix prefixes.Increment ∷ leads.Prefix prefixes.Decrement
    ∷ leads.Prefix (prefixes.Operator unaries.AddressOf) ∷ leads.Prefix (prefixes.Operator unaries.Dereference)
    ∷ leads.Prefix (prefixes.Operator unaries.Plus) ∷ leads.Prefix (prefixes.Operator unaries.Minus)
    ∷ leads.Prefix (prefixes.Operator unaries.Complement) ∷ leads.Prefix (prefixes.Operator unaries.Not)
    ∷ leads.Open ∷ leads.Close ∷ []

-- the punctuator of these bytes, where an operand is wanted
unfoldable pub lead_spelled : List ℕ → Option Lead
lead_spelled bytes = find (λ lead. bytes_eq (lead_text lead) bytes) leading

-- ---- behind an operand

abbrev pub joint_text : Joint → List ℕ
joint_text joints.Comma = codes ","
joint_text (joints.Assign op) = assign_text op
joint_text joints.Question = codes "?"
joint_text (joints.Binary op) = binary_text op

-- the level of what it makes
abbrev pub own_level : Joint → ℕ
own_level joints.Comma = expr
own_level (joints.Assign op) = assign
own_level joints.Question = cond
own_level (joints.Binary op) = level_of op

-- the level of its left operand
abbrev pub left_level : Joint → ℕ
left_level joints.Comma = expr
left_level (joints.Assign op) = unary
left_level joints.Question = lor
left_level (joints.Binary op) = level_of op

-- the level from which on what stands before it is put together
abbrev pub reduce_level : Joint → ℕ
reduce_level joints.Comma = expr
reduce_level (joints.Assign op) = cast
reduce_level joints.Question = lor
reduce_level (joints.Binary op) = level_of op

abbrev pub follow_text : Follow → List ℕ
follow_text (follows.Joint joint) = joint_text joint
follow_text follows.Colon = codes ":"
follow_text follows.OpenBracket = codes "["
follow_text follows.CloseBracket = codes "]"
follow_text follows.OpenParenthesis = codes "("
follow_text follows.CloseParenthesis = codes ")"
follow_text follows.Increment = codes "++"
follow_text follows.Decrement = codes "--"

abbrev pub following : List Follow
following =
    follows.CloseParenthesis ∷ follows.Joint joints.Comma ∷ follows.OpenBracket ∷ follows.CloseBracket ∷ follows.OpenParenthesis
    ∷ follows.Increment ∷ follows.Decrement ∷ follows.Joint joints.Question ∷ follows.Colon
    ∷ follows.Joint (joints.Assign assignments.Assign) ∷ follows.Joint (joints.Assign assignments.Multiply)
    ∷ follows.Joint (joints.Assign assignments.Divide) ∷ follows.Joint (joints.Assign assignments.Remainder)
    ∷ follows.Joint (joints.Assign assignments.Add) ∷ follows.Joint (joints.Assign assignments.Subtract)
    ∷ follows.Joint (joints.Assign assignments.ShiftLeft) ∷ follows.Joint (joints.Assign assignments.ShiftRight)
    ∷ follows.Joint (joints.Assign assignments.BitAnd) ∷ follows.Joint (joints.Assign assignments.BitXor)
    ∷ follows.Joint (joints.Assign assignments.BitOr)
    ∷ follows.Joint (joints.Binary binaries.Multiply) ∷ follows.Joint (joints.Binary binaries.Divide)
    ∷ follows.Joint (joints.Binary binaries.Remainder) ∷ follows.Joint (joints.Binary binaries.Add)
    ∷ follows.Joint (joints.Binary binaries.Subtract) ∷ follows.Joint (joints.Binary binaries.ShiftLeft)
    ∷ follows.Joint (joints.Binary binaries.ShiftRight) ∷ follows.Joint (joints.Binary binaries.Less)
    ∷ follows.Joint (joints.Binary binaries.Greater) ∷ follows.Joint (joints.Binary binaries.LessOrEqual)
    ∷ follows.Joint (joints.Binary binaries.GreaterOrEqual) ∷ follows.Joint (joints.Binary binaries.Equal)
    ∷ follows.Joint (joints.Binary binaries.NotEqual) ∷ follows.Joint (joints.Binary binaries.BitAnd)
    ∷ follows.Joint (joints.Binary binaries.BitXor) ∷ follows.Joint (joints.Binary binaries.BitOr)
    ∷ follows.Joint (joints.Binary binaries.And) ∷ follows.Joint (joints.Binary binaries.Or) ∷ []

-- the punctuator of these bytes, behind an operand
unfoldable pub follow_spelled : List ℕ → Option Follow
follow_spelled bytes = find (λ follow. bytes_eq (follow_text follow) bytes) following

-- ---- words of types

abbrev pub all_specifiers : List Specifier
all_specifiers =
    specifiers.Void ∷ specifiers.Char ∷ specifiers.Short ∷ specifiers.Int ∷ specifiers.Long ∷ specifiers.Signed ∷ specifiers.Unsigned
    ∷ specifiers.Auto ∷ specifiers.Const ∷ specifiers.Inline ∷ specifiers.Register ∷ specifiers.Restrict ∷ specifiers.Volatile
    ∷ specifiers.Static ∷ []

unfoldable pub specifier_spelled : List ℕ → Option Specifier
specifier_spelled bytes = find (λ s. bytes_eq (specifier_text s) bytes) all_specifiers

abbrev pub is_allowed : Scope → Specifier → Bool
is_allowed scopes.Block specifiers.Static = false
is_allowed scope s = true

-- the word of specs of these bytes, in a scope
abbrev pub specifier_of : Scope → List ℕ → Option Specifier
specifier_of scope bytes = option_and_then (λ s. if is_allowed scope s then Some s else None) (specifier_spelled bytes)

abbrev pub all_qualifiers : List Qualifier
all_qualifiers = qualifiers.Const ∷ qualifiers.Volatile ∷ qualifiers.Restrict ∷ []

unfoldable pub qualifier_spelled : List ℕ → Option Qualifier
qualifier_spelled bytes = find (λ q. bytes_eq (qualifier_text q) bytes) all_qualifiers

-- What was read of an expression and waits for what follows.
use Rattle.std.specs.Prelude.{ℕ, ◌+◌, max, List, [], ◌∷◌, ◌++◌, Bool, true, false, Option, Some, None, option_map, option_and_then, nat_le, if◌then◌else◌}
use Rattle.css_tree.specs.declared.operators.BinaryOperator.{BinaryOperator}
use Rattle.css_tree.specs.declared.operators.AssignOperator.{AssignOperator}
use Rattle.css_tree.specs.Syntax.{TypeName, Expression, Comma, Assign, Conditional, Binary, Cast, PreIncrement, PreDecrement, Unary, SizeofExpression, Index, PostIncrement, PostDecrement, Call, Name}
use Rattle.css_pexpr.specs.Arguments.{in_order}
use Rattle.css_tree.specs.Expressions.{level_of, expr, assign, cond, cast, unary, postfix}
use Rattle.css_tree.specs.Heights.{height}
use Rattle.css_pexpr.specs.declared.prefix.Prefix.{Prefix}
use Rattle.css_pexpr.specs.declared.prefix.Prefix.TheVariants as prefixes
use Rattle.css_pexpr.specs.declared.follow.Joint.{Joint}
use Rattle.css_pexpr.specs.declared.follow.Joint.TheVariants as joints

-- ---- trees up to a height

-- An expression, or None where it is higher than what is kept.
abbrev pub Node : Type 0
Node = Option Expression

unfoldable pub capped : ℕ → Expression → Node
capped most e = if nat_le (height e) most then Some e else None

-- an expression made of one, two or three others
abbrev pub made_of : ℕ → (Expression → Expression) → Node → Node
made_of most make a = option_and_then (λ x. capped most (make x)) a

abbrev pub made_of_two : ℕ → (Expression → Expression → Expression) → Node → Node → Node
made_of_two most make a b = option_and_then (λ x. made_of most (make x) b) a

abbrev pub made_of_three : ℕ → (Expression → Expression → Expression → Expression) → Node → Node → Node → Node
made_of_three most make a b c = option_and_then (λ x. made_of_two most (make x) b c) a

abbrev pub with_argument : Option (List Expression) → Node → Option (List Expression)
with_argument before e = option_and_then (λ es. option_map (λ x. es ++ x ∷ []) e) before

-- a call of a name
abbrev pub call_of : ℕ → ℕ → List Expression → Node → Node
call_of most line es (Some (Name other name)) = capped most (Call line name (in_order es))
call_of most line es callee = None

abbrev pub called : ℕ → ℕ → Node → Option (List Expression) → Node
called most line callee arguments = option_and_then (λ es. call_of most line es callee) arguments

-- ---- frames

-- An operand that was read, with its level and the line of its first token.
pub record Operand : Type 0 where
  pub level : ℕ
  pub line : ℕ
  pub node : Node

abbrev pub operand : ℕ → ℕ → Node → Operand
operand level line node = record { level = level; line = line; node = node }

-- What waits for an operand. The line is that of the first token of what it makes.
pub data Frame : Type 0 where
  -- an operator before its operand, and a type in parentheses
  Pre : (line : ℕ) (op : Prefix) → Frame
  Casting : (line : ℕ) (type : TypeName) → Frame
  -- a left operand and its operator
  Infix : (line : ℕ) (left : Node) (op : BinaryOperator) → Frame
  Otherwise : (line : ℕ) (condition first : Node) → Frame
  Assigning : (line : ℕ) (place : Node) (op : AssignOperator) → Frame
  Sequence : (line : ℕ) (left : Node) → Frame
  -- what has to be closed: a parenthesis, a bracket behind an array, a question mark, a parenthesis behind a name
  Group : (line : ℕ) → Frame
  Element : (line : ℕ) (array : Node) → Frame
  Question : (line : ℕ) (condition : Node) → Frame
  Passing : (line : ℕ) (callee : Node) (before : Option (List Expression)) → Frame

-- the frames, the last one first
abbrev pub Stack : Type 0
Stack = List Frame

abbrev pub is_open : Frame → Bool
is_open (Group line) = true
is_open (Element line array) = true
is_open (Question line condition) = true
is_open (Passing line callee before) = true
is_open _ = false

-- the level of what a frame makes
abbrev pub frame_level : Frame → ℕ
frame_level (Pre line op) = unary
frame_level (Casting line type) = cast
frame_level (Infix line left op) = level_of op
frame_level (Otherwise line condition first) = cond
frame_level (Assigning line place op) = assign
frame_level (Sequence line left) = expr
frame_level (Group line) = postfix
frame_level (Element line array) = postfix
frame_level (Question line condition) = cond
frame_level (Passing line callee before) = postfix

abbrev pub operand_level : Prefix → ℕ
operand_level (prefixes.Operator op) = cast
operand_level _ = unary

-- the loosest level that is wanted behind these frames, and where there is none
abbrev pub wanted : ℕ → Stack → ℕ
wanted level [] = level
wanted level (Pre line op ∷ frames) = operand_level op
wanted level (Casting line type ∷ frames) = cast
wanted level (Infix line left op ∷ frames) = level_of op + 1
wanted level (Otherwise line condition first ∷ frames) = cond
wanted level (Assigning line place op ∷ frames) = assign
wanted level (Sequence line left ∷ frames) = assign
wanted level (Group line ∷ frames) = expr
wanted level (Element line array ∷ frames) = expr
wanted level (Question line condition ∷ frames) = expr
wanted level (Passing line callee before ∷ frames) = assign

-- the line of the last frame, if it is that of `sizeof`
abbrev pub last_sizeof : Stack → Option ℕ
last_sizeof (Pre line prefixes.Sizeof ∷ frames) = Some line
last_sizeof frames = None

-- ---- putting together

abbrev pub prefixed : Prefix → ℕ → Expression → Expression
prefixed prefixes.Increment line a = PreIncrement line a
prefixed prefixes.Decrement line a = PreDecrement line a
prefixed prefixes.Sizeof line a = SizeofExpression line a
prefixed (prefixes.Operator op) line a = Unary line op a

-- what a frame makes of its operand
abbrev pub frame_node : ℕ → Frame → Node → Node
frame_node most (Pre line op) x = made_of most (prefixed op line) x
frame_node most (Casting line type) x = made_of most (Cast line type) x
frame_node most (Infix line left op) x = made_of_two most (λ a b. Binary line a op b) left x
frame_node most (Otherwise line condition first) x = made_of_three most (Conditional line) condition first x
frame_node most (Assigning line place op) x = made_of_two most (λ a b. Assign line a op b) place x
frame_node most (Sequence line left) x = made_of_two most (Comma line) left x
frame_node most _ x = x

abbrev pub frame_line : Frame → ℕ
frame_line (Pre line op) = line
frame_line (Casting line type) = line
frame_line (Infix line left op) = line
frame_line (Otherwise line condition first) = line
frame_line (Assigning line place op) = line
frame_line (Sequence line left) = line
frame_line (Group line) = line
frame_line (Element line array) = line
frame_line (Question line condition) = line
frame_line (Passing line callee before) = line

abbrev pub applied : ℕ → Frame → Operand → Operand
applied most f x = operand (frame_level f) (frame_line f) (frame_node most f x.node)

-- a frame of a level or a tighter one, which isn't open
abbrev pub pops : ℕ → Frame → Bool
pops level f = if is_open f then false else nat_le level (frame_level f)

pub record Reduced : Type 0 where
  pub stack : Stack
  pub operand : Operand

-- the operand with the frames of a level or tighter ones put together
abbrev pub reduce : ℕ → ℕ → Stack → Operand → Reduced
reduce most level [] x = record { stack = []; operand = x }
reduce most level (f ∷ frames) x = if pops level f then reduce most level frames (applied most f x) else record { stack = f ∷ frames; operand = x }

-- nothing has to be closed
abbrev pub is_closed : Stack → Bool
is_closed [] = true
is_closed (f ∷ frames) = if is_open f then false else is_closed frames

abbrev pub joint_frame : Joint → ℕ → Node → Frame
joint_frame joints.Comma line left = Sequence line left
joint_frame (joints.Assign op) line left = Assigning line left op
joint_frame joints.Question line left = Question line left
joint_frame (joints.Binary op) line left = Infix line left op

-- ---- trees before they are put together

-- an expression under a node that is kept
abbrev pub under : ℕ → Node → Option Expression
under most a = option_and_then (λ x. if nat_le (1 + height x) most then Some x else None) a

-- two and three expressions under a node that is kept
pub record Two : Type 0 where
  pub first : Expression
  pub second : Expression

pub record Three : Type 0 where
  pub first : Expression
  pub second : Expression
  pub third : Expression

abbrev pub under_two : ℕ → Node → Node → Option Two
under_two most a b =
    option_and_then (λ x. option_and_then (λ y. if nat_le (1 + max (height x) (height y)) most then Some (record { first = x; second = y }) else None) b) a

abbrev pub under_three : ℕ → Node → Node → Node → Option Three
under_three most a b c =
    option_and_then (λ x. option_and_then (λ y. option_and_then (λ z. if nat_le (1 + max (height x) (max (height y) (height z))) most then Some (record { first = x; second = y; third = z }) else None) c) b) a

-- how many of the frames have to be closed
abbrev pub open_frames : Stack → ℕ
open_frames [] = 0
open_frames (f ∷ frames) = if is_open f then open_frames frames + 1 else open_frames frames

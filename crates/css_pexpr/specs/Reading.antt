-- How the tokens of an expression are read, one behind another.
use Rattle.std.specs.Prelude.{ℕ, ◌+◌, List, [], ◌∷◌, ◌++◌, codes, bytes_eq, Bool, true, false, ◌&&◌, Option, Some, None, option_and_then, nat_le, if◌then◌else◌}
use Rattle.css_base.specs.declared.int_type.IntType.TheVariants as types
use Rattle.css_base.specs.Tokens as tokens
use Rattle.css_base.specs.Tokens.{Kind, Lexeme, At}
use Rattle.css_tree.specs.declared.words.Specifier.{Specifier}
use Rattle.css_tree.specs.declared.words.Qualifier.{Qualifier}
use Rattle.css_tree.specs.Syntax.{Stars, TypeName, Expression, SizeofType, Index, PostIncrement, PostDecrement, Name, Number, Text}
use Rattle.css_tree.specs.Words.{is_keyword}
use Rattle.css_tree.specs.Expressions.{expr, assign, cond, cast, unary, postfix}
use Rattle.css_pexpr.specs.declared.manner.Manner.{Manner}
use Rattle.css_pexpr.specs.declared.prefix.Prefix.TheVariants as prefixes
use Rattle.css_pexpr.specs.declared.prefix.Lead.{Lead}
use Rattle.css_pexpr.specs.declared.prefix.Lead.TheVariants as leads
use Rattle.css_pexpr.specs.declared.follow.Joint.{Joint}
use Rattle.css_pexpr.specs.declared.follow.Joint.TheVariants as joints
use Rattle.css_pexpr.specs.declared.follow.Follow.{Follow}
use Rattle.css_pexpr.specs.declared.follow.Follow.TheVariants as follows
use Rattle.css_pexpr.specs.Signs.{lead_spelled, follow_spelled, specifier_of, qualifier_spelled, reduce_level, left_level, own_level}
use Rattle.css_pexpr.specs.Frames.{Node, capped, made_of, made_of_two, with_argument, called, Operand, operand, Frame, Pre, Casting, Otherwise, Group, Element, Question, Passing, Stack, wanted, reduce, is_closed, joint_frame}

-- What was read: frames that want an operand; an operand behind frames, which may be a name alone; a type behind a
-- parenthesis, so far.
pub data State : Type 0 where
  Wants : (stack : Stack) → State
  Has : (stack : Stack) (is_name : Bool) (x : Operand) → State
  Types : (stack : Stack) (line : ℕ) (type : TypeName) → State

-- ---- types

abbrev pub with_specifier : TypeName → Specifier → TypeName
with_specifier type s = record type { specifiers = type.specifiers ++ s ∷ [] }

abbrev pub with_star : TypeName → TypeName
with_star type = record type { stars = type.stars ++ [] ∷ [] }

-- the qualifier at the last star
abbrev pub at_last : Stars → Qualifier → Stars
at_last [] q = []
at_last (star ∷ []) q = (star ++ q ∷ []) ∷ []
at_last (star ∷ more ∷ stars) q = star ∷ at_last (more ∷ stars) q

abbrev pub with_qualifier : TypeName → Qualifier → TypeName
with_qualifier type q = record type { stars = at_last type.stars q }

-- a type may stand behind a parenthesis: a cast, or the operand of `sizeof`
abbrev pub takes_type : ℕ → Stack → Bool
takes_type level (Pre line prefixes.Sizeof ∷ frames) = true
takes_type level frames = nat_le (wanted level frames) cast

-- the first word of a type, where one may stand
abbrev pub first_word : Manner → Stack → ℕ → Specifier → Option State
first_word m frames line s = if takes_type m.level frames then Some (Types frames line (record { specifiers = s ∷ []; stars = [] })) else None

-- the first word of a type, behind a parenthesis
abbrev pub begun : Manner → Stack → Option Specifier → Option State
begun m frames None = None
begun m (Group line ∷ frames) (Some s) = first_word m frames line s
begun m frames (Some s) = None

-- a type behind which the parenthesis is closed
abbrev pub ended : Manner → Stack → ℕ → TypeName → State
ended m (Pre first prefixes.Sizeof ∷ frames) line type = Has frames false (operand unary first (capped m.most (SizeofType first type)))
ended m frames line type = Wants (Casting line type ∷ frames)

abbrev pub type_word : Manner → Stack → ℕ → TypeName → Stars → List ℕ → Option State
type_word m frames line type [] bytes = option_and_then (λ s. Some (Types frames line (with_specifier type s))) (specifier_of m.scope bytes)
type_word m frames line type (star ∷ stars) bytes = option_and_then (λ q. Some (Types frames line (with_qualifier type q))) (qualifier_spelled bytes)

abbrev pub type_mark : Manner → Stack → ℕ → TypeName → List ℕ → Option State
type_mark m frames line type bytes =
    if bytes_eq bytes (codes "*") then Some (Types frames line (with_star type))
    else (if bytes_eq bytes (codes ")") then Some (ended m frames line type) else None)

abbrev pub step_type : Manner → Stack → ℕ → TypeName → Kind → Option State
step_type m frames line type (tokens.Word bytes) = type_word m frames line type type.stars bytes
step_type m frames line type (tokens.Punctuator bytes) = type_mark m frames line type bytes
step_type m frames line type _ = None

-- ---- where an operand is wanted

-- a call without arguments, where none was read
abbrev pub closed_call : ℕ → Stack → ℕ → Node → Option (List Expression) → Option State
closed_call most frames line callee (Some []) = Some (Has frames false (operand postfix line (called most line callee (Some []))))
closed_call most frames line callee before = None

abbrev pub led : Manner → Stack → ℕ → Option Lead → Option State
led m frames line (Some (leads.Prefix op)) = Some (Wants (Pre line op ∷ frames))
led m frames line (Some leads.Open) = Some (Wants (Group line ∷ frames))
led m (Passing first callee before ∷ frames) line (Some leads.Close) = closed_call m.most frames first callee before
led m frames line _ = None

abbrev pub named : Manner → Stack → ℕ → List ℕ → Option State
named m frames line bytes = if is_keyword bytes then None else Some (Has frames true (operand postfix line (capped m.most (Name line bytes))))

abbrev pub step_word : Manner → Stack → ℕ → List ℕ → Option State
step_word m frames line bytes =
    if bytes_eq bytes (codes "sizeof") then Some (Wants (Pre line prefixes.Sizeof ∷ frames))
    else (if is_keyword bytes then begun m frames (specifier_of m.scope bytes) else named m frames line bytes)

abbrev pub step_wanting : Manner → Stack → ℕ → Kind → Option State
step_wanting m frames line (tokens.Punctuator bytes) = led m frames line (lead_spelled bytes)
step_wanting m frames line (tokens.Word bytes) = step_word m frames line bytes
step_wanting m frames line (tokens.Number type value) = Some (Has frames false (operand postfix line (capped m.most (Number line type value))))
step_wanting m frames line (tokens.Character byte) = Some (Has frames false (operand postfix line (capped m.most (Number line types.Int byte))))
step_wanting m frames line (tokens.Text bytes) = Some (Has frames false (operand postfix line (capped m.most (Text line bytes))))
step_wanting m frames line (tokens.Directive words) = None

-- ---- behind an operand

-- an operator, where its left operand and the frames take it
abbrev pub taken : Manner → Joint → Stack → Operand → Option State
taken m joint frames x =
    if nat_le (left_level joint) x.level && nat_le (wanted m.level frames) (own_level joint) then Some (Wants (joint_frame joint x.line x.node ∷ frames)) else None

-- a joint behind what was put together: the comma of a call's arguments, or an operator
abbrev pub joined : Manner → Joint → Stack → Operand → Option State
joined m joints.Comma (Passing line callee before ∷ frames) x = Some (Wants (Passing line callee (with_argument before x.node) ∷ frames))
joined m joint frames x = taken m joint frames x

-- a colon, a parenthesis and a bracket behind what was put together
abbrev pub divided : Stack → Operand → Option State
divided (Question line condition ∷ frames) x = Some (Wants (Otherwise line condition x.node ∷ frames))
divided frames x = None

abbrev pub grouped : Manner → Stack → Operand → Option State
grouped m (Group line ∷ frames) x = Some (Has frames false (operand postfix line x.node))
grouped m (Passing line callee before ∷ frames) x = Some (Has frames false (operand postfix line (called m.most line callee (with_argument before x.node))))
grouped m frames x = None

abbrev pub indexed : Manner → Stack → Operand → Option State
indexed m (Element line array ∷ frames) x = Some (Has frames false (operand postfix line (made_of_two m.most (Index line) array x.node)))
indexed m frames x = None

abbrev pub followed : Manner → Stack → Bool → Operand → Option Follow → Option State
followed m frames is_name x (Some (follows.Joint joint)) =
    let r = reduce m.most (reduce_level joint) frames x in
    joined m joint r.stack r.operand
followed m frames is_name x (Some follows.Colon) = (let r = reduce m.most expr frames x in divided r.stack r.operand)
followed m frames is_name x (Some follows.CloseParenthesis) = (let r = reduce m.most expr frames x in grouped m r.stack r.operand)
followed m frames is_name x (Some follows.CloseBracket) = (let r = reduce m.most expr frames x in indexed m r.stack r.operand)
followed m frames is_name x (Some follows.OpenBracket) = if nat_le postfix x.level then Some (Wants (Element x.line x.node ∷ frames)) else None
followed m frames is_name x (Some follows.OpenParenthesis) = if is_name then Some (Wants (Passing x.line x.node (Some []) ∷ frames)) else None
followed m frames is_name x (Some follows.Increment) =
    if nat_le postfix x.level then Some (Has frames false (operand postfix x.line (made_of m.most (PostIncrement x.line) x.node))) else None
followed m frames is_name x (Some follows.Decrement) =
    if nat_le postfix x.level then Some (Has frames false (operand postfix x.line (made_of m.most (PostDecrement x.line) x.node))) else None
followed m frames is_name x None = None

abbrev pub step_having : Manner → Stack → Bool → Operand → Kind → Option State
step_having m frames is_name x (tokens.Punctuator bytes) = followed m frames is_name x (follow_spelled bytes)
step_having m frames is_name x _ = None

-- ---- all

abbrev pub step : Manner → State → Lexeme → Option State
step m (Wants frames) (At kind line place end) = step_wanting m frames line kind
step m (Has frames is_name x) (At kind line place end) = step_having m frames is_name x kind
step m (Types frames line type) (At kind other place end) = step_type m frames line type kind

-- the state behind some tokens, where each of them can be read
abbrev pub run : Manner → State → List Lexeme → Option State
run m s [] = Some s
run m s (t ∷ ts) = option_and_then (λ next. run m next ts) (step m s t)

abbrev pub start : State
start = Wants []

-- an expression was read, and nothing has to be closed
abbrev pub is_whole : State → Bool
is_whole (Has frames is_name x) = is_closed frames
is_whole _ = false

-- the node of what was read, put together
abbrev pub node_of : Manner → State → Node
node_of m (Has frames is_name x) = (reduce m.most expr frames x).operand.node
node_of m s = None

abbrev pub finished : Manner → State → Node
finished m s = if is_whole s then node_of m s else None

-- the expression that tokens are behind a state
abbrev pub built : Manner → State → List Lexeme → Node
built m s [] = finished m s
built m s (t ∷ ts) = option_and_then (λ next. built m next ts) (step m s t)

-- how many tokens there are up to the last place where what was read is whole, of which so many were read and the last such
-- place so far is known
abbrev pub next_best : Option ℕ → (State → Option ℕ) → Option State → Option ℕ
next_best best goes None = best
next_best best goes (Some next) = goes next

abbrev pub longest_from : Manner → State → ℕ → Option ℕ → List Lexeme → Option ℕ
longest_from m s count best [] = best
longest_from m s count best (t ∷ ts) = next_best best (λ next. longest_from m next (count + 1) (if is_whole next then Some (count + 1) else best) ts) (step m s t)

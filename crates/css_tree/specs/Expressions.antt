-- Which tokens spell which expression (C99 6.5).
--   expr     := assign { "," assign }
--   assign   := unary ( "=" | "*=" | "/=" | "%=" | "+=" | "-=" | "<<=" | ">>=" | "&=" | "^=" | "|=" ) assign | cond
--   cond     := lor [ "?" expr ":" cond ]
--   lor, land, bor, bxor, band, equality, relation, shift, sum, term: the binary levels, each left to right, over cast
--   cast     := "(" typename ")" cast | unary
--   unary    := postfix | "++" unary | "--" unary | ( "&" | "*" | "+" | "-" | "~" | "!" ) cast
--             | "sizeof" unary | "sizeof" "(" typename ")"
--   postfix  := primary { "[" expr "]" | "++" | "--" | "(" [ args ] ")" }
--   args     := assign { "," assign }
--   primary  := name | NUMBER | CHARACTER | STRING | "(" expr ")"
use Rattle.std.specs.Prelude.{◌≡◌, ℕ, ◌+◌, ◌≤◌, List, [], ◌∷◌, ◌++◌, codes}
use Rattle.css_base.specs.declared.int_type.IntType.{IntType}
use Rattle.css_base.specs.declared.int_type.IntType.TheVariants as types
use Rattle.css_base.specs.Tokens as tokens
use Rattle.css_base.specs.Tokens.{Word, Lexeme}
use Rattle.css_tree.specs.declared.scope.Scope.{Scope}
use Rattle.css_tree.specs.declared.operators.UnaryOperator.{UnaryOperator}
use Rattle.css_tree.specs.declared.operators.UnaryOperator.TheVariants as unaries
use Rattle.css_tree.specs.declared.operators.BinaryOperator.{BinaryOperator}
use Rattle.css_tree.specs.declared.operators.BinaryOperator.TheVariants as binaries
use Rattle.css_tree.specs.declared.operators.AssignOperator.{AssignOperator}
use Rattle.css_tree.specs.declared.operators.AssignOperator.TheVariants as assignments
use Rattle.css_tree.specs.Syntax as tree
use Rattle.css_tree.specs.Syntax.{TypeName, Expression, Expressions, End, More}
use Rattle.css_tree.specs.TokenParts.{One, These, mark, word, Are, first_line}
use Rattle.css_tree.specs.Words.{IsName, SpellsTypeName}

-- ---- operators

abbrev pub unary_text : UnaryOperator → List ℕ
unary_text unaries.AddressOf = codes "&"
unary_text unaries.Dereference = codes "*"
unary_text unaries.Plus = codes "+"
unary_text unaries.Minus = codes "-"
unary_text unaries.Complement = codes "~"
unary_text unaries.Not = codes "!"

abbrev pub binary_text : BinaryOperator → List ℕ
binary_text binaries.Multiply = codes "*"
binary_text binaries.Divide = codes "/"
binary_text binaries.Remainder = codes "%"
binary_text binaries.Add = codes "+"
binary_text binaries.Subtract = codes "-"
binary_text binaries.ShiftLeft = codes "<<"
binary_text binaries.ShiftRight = codes ">>"
binary_text binaries.Less = codes "<"
binary_text binaries.Greater = codes ">"
binary_text binaries.LessOrEqual = codes "<="
binary_text binaries.GreaterOrEqual = codes ">="
binary_text binaries.Equal = codes "=="
binary_text binaries.NotEqual = codes "!="
binary_text binaries.BitAnd = codes "&"
binary_text binaries.BitXor = codes "^"
binary_text binaries.BitOr = codes "|"
binary_text binaries.And = codes "&&"
binary_text binaries.Or = codes "||"

abbrev pub assign_text : AssignOperator → List ℕ
assign_text assignments.Assign = codes "="
assign_text assignments.Multiply = codes "*="
assign_text assignments.Divide = codes "/="
assign_text assignments.Remainder = codes "%="
assign_text assignments.Add = codes "+="
assign_text assignments.Subtract = codes "-="
assign_text assignments.ShiftLeft = codes "<<="
assign_text assignments.ShiftRight = codes ">>="
assign_text assignments.BitAnd = codes "&="
assign_text assignments.BitXor = codes "^="
assign_text assignments.BitOr = codes "|="

-- ---- levels, from the loosest

abbrev pub expr : ℕ
expr = 0

abbrev pub assign : ℕ
assign = 1

abbrev pub cond : ℕ
cond = 2

-- the binary levels lor, land, bor, bxor, band, equality, relation, shift, sum and term
abbrev pub level_of : BinaryOperator → ℕ
level_of binaries.Or = 3
level_of binaries.And = 4
level_of binaries.BitOr = 5
level_of binaries.BitXor = 6
level_of binaries.BitAnd = 7
level_of binaries.Equal = 8
level_of binaries.NotEqual = 8
level_of binaries.Less = 9
level_of binaries.Greater = 9
level_of binaries.LessOrEqual = 9
level_of binaries.GreaterOrEqual = 9
level_of binaries.ShiftLeft = 10
level_of binaries.ShiftRight = 10
level_of binaries.Add = 11
level_of binaries.Subtract = 11
level_of binaries.Multiply = 12
level_of binaries.Divide = 12
level_of binaries.Remainder = 12

abbrev pub lor : ℕ
lor = 3

abbrev pub cast : ℕ
cast = 13

abbrev pub unary : ℕ
unary = 14

abbrev pub postfix : ℕ
postfix = 15

-- ---- the relation

-- The tokens spell an expression of a level or a tighter one: what a level spells, each looser level spells too, with no node
-- of its own.
mutual
  pub data SpellsExpression (scope : Scope) : (level : ℕ) (ts : List Lexeme) (e : Expression) → Type 0 where
    -- expr
    Comma : {level line : ℕ} {ts : List Lexeme} {a b : Expression} (us vs : List Lexeme) → level ≤ expr → first_line ts ≡ line
        → Are ts (These us ∷ mark (codes ",") ∷ These vs ∷ [])
        → SpellsExpression scope expr us a → SpellsExpression scope assign vs b
        → SpellsExpression scope level ts (tree.Comma line a b)
    -- assign
    Assign : {level line : ℕ} {ts : List Lexeme} {a b : Expression} (op : AssignOperator) (us vs : List Lexeme) → level ≤ assign → first_line ts ≡ line
        → Are ts (These us ∷ mark (assign_text op) ∷ These vs ∷ [])
        → SpellsExpression scope unary us a → SpellsExpression scope assign vs b
        → SpellsExpression scope level ts (tree.Assign line a op b)
    -- cond
    Conditional : {level line : ℕ} {ts : List Lexeme} {a b c : Expression} (us vs ws : List Lexeme) → level ≤ cond → first_line ts ≡ line
        → Are ts (These us ∷ mark (codes "?") ∷ These vs ∷ mark (codes ":") ∷ These ws ∷ [])
        → SpellsExpression scope lor us a → SpellsExpression scope expr vs b → SpellsExpression scope cond ws c
        → SpellsExpression scope level ts (tree.Conditional line a b c)
    -- the binary levels, each left to right
    Binary : {level line : ℕ} {ts : List Lexeme} {a b : Expression} (op : BinaryOperator) (us vs : List Lexeme) → level ≤ level_of op → first_line ts ≡ line
        → Are ts (These us ∷ mark (binary_text op) ∷ These vs ∷ [])
        → SpellsExpression scope (level_of op) us a → SpellsExpression scope (level_of op + 1) vs b
        → SpellsExpression scope level ts (tree.Binary line a op b)
    -- cast
    Cast : {level line : ℕ} {ts : List Lexeme} {a : Expression} (type : TypeName) (us vs : List Lexeme) → level ≤ cast → first_line ts ≡ line
        → Are ts (mark (codes "(") ∷ These us ∷ mark (codes ")") ∷ These vs ∷ [])
        → SpellsTypeName scope us type → SpellsExpression scope cast vs a
        → SpellsExpression scope level ts (tree.Cast line type a)
    -- unary
    PreIncrement : {level line : ℕ} {ts : List Lexeme} {a : Expression} (us : List Lexeme) → level ≤ unary → first_line ts ≡ line
        → Are ts (mark (codes "++") ∷ These us ∷ []) → SpellsExpression scope unary us a
        → SpellsExpression scope level ts (tree.PreIncrement line a)
    PreDecrement : {level line : ℕ} {ts : List Lexeme} {a : Expression} (us : List Lexeme) → level ≤ unary → first_line ts ≡ line
        → Are ts (mark (codes "--") ∷ These us ∷ []) → SpellsExpression scope unary us a
        → SpellsExpression scope level ts (tree.PreDecrement line a)
    Unary : {level line : ℕ} {ts : List Lexeme} {a : Expression} (op : UnaryOperator) (us : List Lexeme) → level ≤ unary → first_line ts ≡ line
        → Are ts (mark (unary_text op) ∷ These us ∷ []) → SpellsExpression scope cast us a
        → SpellsExpression scope level ts (tree.Unary line op a)
    SizeofExpression : {level line : ℕ} {ts : List Lexeme} {a : Expression} (us : List Lexeme) → level ≤ unary → first_line ts ≡ line
        → Are ts (word (codes "sizeof") ∷ These us ∷ []) → SpellsExpression scope unary us a
        → SpellsExpression scope level ts (tree.SizeofExpression line a)
    SizeofType : {level line : ℕ} {ts : List Lexeme} (type : TypeName) (us : List Lexeme) → level ≤ unary → first_line ts ≡ line
        → Are ts (word (codes "sizeof") ∷ mark (codes "(") ∷ These us ∷ mark (codes ")") ∷ []) → SpellsTypeName scope us type
        → SpellsExpression scope level ts (tree.SizeofType line type)
    -- postfix
    Index : {level line : ℕ} {ts : List Lexeme} {a b : Expression} (us vs : List Lexeme) → level ≤ postfix → first_line ts ≡ line
        → Are ts (These us ∷ mark (codes "[") ∷ These vs ∷ mark (codes "]") ∷ [])
        → SpellsExpression scope postfix us a → SpellsExpression scope expr vs b
        → SpellsExpression scope level ts (tree.Index line a b)
    PostIncrement : {level line : ℕ} {ts : List Lexeme} {a : Expression} (us : List Lexeme) → level ≤ postfix → first_line ts ≡ line
        → Are ts (These us ∷ mark (codes "++") ∷ []) → SpellsExpression scope postfix us a
        → SpellsExpression scope level ts (tree.PostIncrement line a)
    PostDecrement : {level line : ℕ} {ts : List Lexeme} {a : Expression} (us : List Lexeme) → level ≤ postfix → first_line ts ≡ line
        → Are ts (These us ∷ mark (codes "--") ∷ []) → SpellsExpression scope postfix us a
        → SpellsExpression scope level ts (tree.PostDecrement line a)
    -- Only a name is called.
    Call : {level line : ℕ} {ts : List Lexeme} {arguments : Expressions} (name : List ℕ) (us : List Lexeme) → level ≤ postfix → first_line ts ≡ line
        → Are ts (word name ∷ mark (codes "(") ∷ These us ∷ mark (codes ")") ∷ []) → IsName name → SpellsArguments scope us arguments
        → SpellsExpression scope level ts (tree.Call line name arguments)
    -- primary
    Name : {level line : ℕ} {ts : List Lexeme} (name : List ℕ) → first_line ts ≡ line
        → Are ts (word name ∷ []) → IsName name
        → SpellsExpression scope level ts (tree.Name line name)
    Constant : {level line : ℕ} {ts : List Lexeme} (type : IntType) (value : ℕ) → first_line ts ≡ line
        → Are ts (One (tokens.Number type value) ∷ [])
        → SpellsExpression scope level ts (tree.Number line type value)
    Character : {level line : ℕ} {ts : List Lexeme} (byte : ℕ) → first_line ts ≡ line
        → Are ts (One (tokens.Character byte) ∷ [])
        → SpellsExpression scope level ts (tree.Number line types.Int byte)
    String : {level line : ℕ} {ts : List Lexeme} (bytes : List ℕ) → first_line ts ≡ line
        → Are ts (One (tokens.Text bytes) ∷ [])
        → SpellsExpression scope level ts (tree.Text line bytes)
    Parentheses : {level : ℕ} {ts : List Lexeme} {e : Expression} (us : List Lexeme)
        → Are ts (mark (codes "(") ∷ These us ∷ mark (codes ")") ∷ []) → SpellsExpression scope expr us e
        → SpellsExpression scope level ts e

  -- [ args ]
  pub data SpellsArguments (scope : Scope) : (ts : List Lexeme) (all : Expressions) → Type 0 where
    NoArguments : {ts : List Lexeme} → ts ≡ [] → SpellsArguments scope ts End
    Arguments : {ts : List Lexeme} {e : Expression} {others : Expressions} (us vs : List Lexeme) → ts ≡ us ++ vs
        → SpellsExpression scope assign us e → SpellsFurther scope vs others
        → SpellsArguments scope ts (More e others)

  -- { "," assign }
  pub data SpellsFurther (scope : Scope) : (ts : List Lexeme) (all : Expressions) → Type 0 where
    NoFurther : {ts : List Lexeme} → ts ≡ [] → SpellsFurther scope ts End
    Further : {ts : List Lexeme} {e : Expression} {others : Expressions} (us vs : List Lexeme)
        → Are ts (mark (codes ",") ∷ These us ∷ These vs ∷ [])
        → SpellsExpression scope assign us e → SpellsFurther scope vs others
        → SpellsFurther scope ts (More e others)

-- The longest expression at the front of some tokens.
use Rattle.std.specs.Prelude.{◌≡◌, ℕ, ◌<◌, ◌≤◌, List, [], ◌∷◌, ◌++◌, length, drop}
use Rattle.css_base.specs.Tokens.{Lexeme}
use Rattle.css_base.specs.declared.static_fault.FrontFault.{FrontFault}
use Rattle.css_base.specs.declared.static_fault.FrontFault.TheVariants as faults
use Rattle.css_base.specs.declared.static_fault.StaticName.TheVariants as names
use Rattle.css_tree.specs.declared.scope.Scope.{Scope}
use Rattle.css_tree.specs.Syntax.{Expression}
use Rattle.css_tree.specs.TokenParts.{line_of}
use Rattle.css_tree.specs.Expressions.{expr, assign, cond, SpellsExpression}
use Rattle.css_tree.specs.Heights.{height}
use Rattle.css_pexpr.specs.declared.level.Level.{Level}
use Rattle.css_pexpr.specs.declared.level.Level.TheVariants as levels

-- the grammar's level
abbrev pub level_number : Level → ℕ
level_number levels.Expr = expr
level_number levels.Assign = assign
level_number levels.Cond = cond

-- A front of the tokens spells the expression, the rest follows, and no longer front spells any.
pub record IsLongest (scope : Scope) (level : Level) (ts : List Lexeme) (e : Expression) (rest : List Lexeme) : Type 0 where
  pub front : List Lexeme
  pub parts : ts ≡ front ++ rest
  pub spells : SpellsExpression scope (level_number level) front e
  pub longest : (more behind : List Lexeme) (other : Expression) → ts ≡ more ++ behind
      → SpellsExpression scope (level_number level) more other → length more ≤ length front

-- The first tokens, so many, are the longest expression at the front, and it has at most 500 levels.
pub record IsPart (scope : Scope) (level : Level) (ts : List Lexeme) (e : Expression) (count : ℕ) : Type 0 where
  pub some : 0 < count
  pub within : count ≤ length ts
  pub longest : IsLongest scope level ts e (drop count ts)
  pub low : height e ≤ 500

-- An expression was read from a place on, up to another: the longest one, which has at most 500 levels.
pub record IsRead (scope : Scope) (level : Level) (ts : List Lexeme) (from : ℕ) (e : Expression) (end : ℕ) : Type 0 where
  pub forward : from < end
  pub within : end ≤ length ts
  pub longest : IsLongest scope level (drop from ts) e (drop end ts)
  pub low : height e ≤ 500

-- the line of the token at a place, or 1 where there is none
abbrev pub line_at : List Lexeme → ℕ
line_at [] = 1
line_at (t ∷ ts) = line_of t

-- S5 comes with the line of the token at the place, and only where no expression is spelled there or the longest one has more
-- than 500 levels.
abbrev pub IfNotRead : Scope → Level → List Lexeme → FrontFault → Type 0
IfNotRead scope level ts (faults.Static fault) =
    (fault.name ≡ names.Syntax) × (fault.line ≡ line_at ts)
    × ((e : Expression) (rest : List Lexeme) → IsLongest scope level ts e rest → 500 < height e)
IfNotRead scope level ts faults.NoMemory = Unit {0}

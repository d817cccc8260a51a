-- Which words spell which directive. Each production relates the tokens from some place on, what they begin with, and the
-- tokens behind that.
--   directive := "start" | "finish" | "barrier"
--              | "wait" "on" "(" assign { "," assign } ")"
--              | "task" { clause }
--   clause    := ( "input" | "output" | "inout" ) "(" [ arg { "," arg } ] ")" | "highpriority"
--   arg       := name ( { "[" cond "]" } | "{" cond "," cond "," cond "}" )
use Rattle.std.specs.Prelude.{◌≡◌, ℕ, ◌≤◌, List, [], ◌∷◌, ◌++◌, codes, Bool, true, false}
use Rattle.std.specs.List.{count_by}
use Rattle.css_base.specs.declared.direction.Direction.{Direction}
use Rattle.css_base.specs.declared.direction.Direction.TheVariants as directions
use Rattle.css_base.specs.Tokens.{Word, Punctuator, Lexeme}
use Rattle.css_tree.specs.declared.scope.Scope.{Scope}
use Rattle.css_tree.specs.declared.scope.Scope.TheVariants as scopes
use Rattle.css_tree.specs.Syntax.{Expression, Argument, Plain, Strided, Clause, Arguments, HighPriority, Directive, Start, Finish, Barrier, Wait, Task}
use Rattle.css_tree.specs.Expressions.{SpellsExpression}
use Rattle.css_tree.specs.Heights.{height}
use Rattle.css_pexpr.specs.declared.level.Level.{Level}
use Rattle.css_pexpr.specs.declared.level.Level.TheVariants as levels
use Rattle.css_pexpr.specs.Longest.{level_number}
use Rattle.css_parse.specs.Fronts.{Next}
use Rattle.css_parse.specs.Readings.{ReadsName}
use Rattle.css_pragma.specs.declared.place.Place.{Place}
use Rattle.css_pragma.specs.declared.place.Place.TheVariants as places

-- an expression of a level, of at most 500 levels of nodes
pub record SpellsPart (scope : Scope) (level : Level) (ts : List Lexeme) (e : Expression) (rest : List Lexeme) : Type 0 where
  pub front : List Lexeme
  pub parts : ts ≡ front ++ rest
  pub spells : SpellsExpression scope (level_number level) front e
  pub low : height e ≤ 500

-- an expression and the punctuator behind it
pub record SpellsClosed (scope : Scope) (level : Level) (close : List ℕ) (ts : List Lexeme) (e : Expression) (rest : List Lexeme) : Type 0 where
  pub behind : List Lexeme
  pub part : SpellsPart scope level ts e behind
  pub closes : Next (Punctuator close) behind rest

-- ---- arguments, which stand outside blocks

-- { "[" cond "]" }
abbrev pub SpellsSizes : List Lexeme → List Expression → List Lexeme → Type 0
SpellsSizes ts [] rest = ts ≡ rest
SpellsSizes ts (e ∷ es) rest =
    (inside : List Lexeme) × (behind : List Lexeme) × Next (Punctuator (codes "[")) ts inside
    × SpellsClosed scopes.File levels.Cond (codes "]") inside e behind × SpellsSizes behind es rest

-- cond "," cond "," cond "}"
pub record SpellsThree (ts : List Lexeme) (rows width stride : Expression) (rest : List Lexeme) : Type 0 where
  pub second : List Lexeme
  pub third : List Lexeme
  pub spells_rows : SpellsClosed scopes.File levels.Cond (codes ",") ts rows second
  pub spells_width : SpellsClosed scopes.File levels.Cond (codes ",") second width third
  pub spells_stride : SpellsClosed scopes.File levels.Cond (codes "}") third stride rest

abbrev pub SpellsArgument : List Lexeme → Argument → List Lexeme → Type 0
SpellsArgument ts (Plain name sizes) rest = (behind : List Lexeme) × ReadsName ts name behind × SpellsSizes behind sizes rest
SpellsArgument ts (Strided name rows width stride) rest =
    (behind : List Lexeme) × (inside : List Lexeme) × ReadsName ts name behind × Next (Punctuator (codes "{")) behind inside
    × SpellsThree inside rows width stride rest

-- { "," arg } ")"
abbrev pub SpellsFurther : List Lexeme → List Argument → List Lexeme → Type 0
SpellsFurther ts [] rest = Next (Punctuator (codes ")")) ts rest
SpellsFurther ts (a ∷ all) rest =
    (behind : List Lexeme) × (next : List Lexeme) × Next (Punctuator (codes ",")) ts behind × SpellsArgument behind a next
    × SpellsFurther next all rest

-- [ arg { "," arg } ] ")"
abbrev pub SpellsArguments : List Lexeme → List Argument → List Lexeme → Type 0
SpellsArguments ts [] rest = Next (Punctuator (codes ")")) ts rest
SpellsArguments ts (a ∷ all) rest = (next : List Lexeme) × SpellsArgument ts a next × SpellsFurther next all rest

-- ---- clauses

abbrev pub direction_text : Direction → List ℕ
direction_text directions.In = codes "input"
direction_text directions.Out = codes "output"
direction_text directions.InOut = codes "inout"

abbrev pub SpellsClause : List Lexeme → Clause → List Lexeme → Type 0
SpellsClause ts (Arguments direction all) rest =
    (behind : List Lexeme) × (inside : List Lexeme) × Next (Word (direction_text direction)) ts behind
    × Next (Punctuator (codes "(")) behind inside × SpellsArguments inside all rest
SpellsClause ts HighPriority rest = Next (Word (codes "highpriority")) ts rest

-- { clause }, up to the end
abbrev pub SpellsClauses : List Lexeme → List Clause → Type 0
SpellsClauses ts [] = ts ≡ []
SpellsClauses ts (c ∷ all) = (rest : List Lexeme) × SpellsClause ts c rest × SpellsClauses rest all

abbrev pub is_priority : Clause → Bool
is_priority HighPriority = true
is_priority (Arguments direction all) = false

-- ---- addresses, which stand in a block

-- { "," assign } ")"
abbrev pub SpellsFurtherAddresses : List Lexeme → List Expression → List Lexeme → Type 0
SpellsFurtherAddresses ts [] rest = Next (Punctuator (codes ")")) ts rest
SpellsFurtherAddresses ts (e ∷ es) rest =
    (behind : List Lexeme) × (next : List Lexeme) × Next (Punctuator (codes ",")) ts behind
    × SpellsPart scopes.Block levels.Assign behind e next × SpellsFurtherAddresses next es rest

-- assign { "," assign } ")"
abbrev pub SpellsAddresses : List Lexeme → List Expression → List Lexeme → Type 0
SpellsAddresses ts [] rest = ⊥
SpellsAddresses ts (e ∷ es) rest =
    (next : List Lexeme) × SpellsPart scopes.Block levels.Assign ts e next × SpellsFurtherAddresses next es rest

-- ---- directives

-- A directive of a place, with the line that it stands in, and nothing behind it: `task` before a function, where
-- `highpriority` stands at most once, and one of the others in a block.
abbrev pub SpellsDirective : Place → ℕ → List Lexeme → Directive → Type 0
SpellsDirective places.BeforeFunction line ts (Task own clauses) =
    (own ≡ line) × (rest : List Lexeme) × Next (Word (codes "task")) ts rest × SpellsClauses rest clauses × (count_by is_priority clauses ≤ 1)
SpellsDirective places.InBlock line ts (Start own) = (own ≡ line) × Next (Word (codes "start")) ts []
SpellsDirective places.InBlock line ts (Finish own) = (own ≡ line) × Next (Word (codes "finish")) ts []
SpellsDirective places.InBlock line ts (Barrier own) = (own ≡ line) × Next (Word (codes "barrier")) ts []
SpellsDirective places.InBlock line ts (Wait own addresses) =
    (own ≡ line) × (first : List Lexeme) × (second : List Lexeme) × (inside : List Lexeme)
    × Next (Word (codes "wait")) ts first × Next (Word (codes "on")) first second × Next (Punctuator (codes "(")) second inside
    × SpellsAddresses inside addresses []
SpellsDirective place line ts d = ⊥

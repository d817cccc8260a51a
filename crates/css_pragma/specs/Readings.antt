-- What is read from the front of some tokens: an expression goes on as long as it can, and so do sizes.
use Rattle.std.specs.Prelude.{◌≡◌, ℕ, ◌≤◌, List, [], ◌∷◌, codes}
use Rattle.std.specs.List.{count_by}
use Rattle.css_base.specs.Tokens.{Word, Punctuator, Lexeme}
use Rattle.css_tree.specs.declared.scope.Scope.{Scope}
use Rattle.css_tree.specs.declared.scope.Scope.TheVariants as scopes
use Rattle.css_tree.specs.Syntax.{Expression, Argument, Plain, Strided, Clause, Arguments, HighPriority, Directive, Start, Finish, Barrier, Wait, Task}
use Rattle.css_pexpr.specs.declared.level.Level.{Level}
use Rattle.css_pexpr.specs.declared.level.Level.TheVariants as levels
use Rattle.css_parse.specs.Fronts.{Next}
use Rattle.css_parse.specs.Readings.{IsNoNext, ReadsExpression, ReadsName}
use Rattle.css_pragma.specs.declared.place.Place.{Place}
use Rattle.css_pragma.specs.declared.place.Place.TheVariants as places
use Rattle.css_pragma.specs.Directives.{direction_text, is_priority}

-- the longest expression, and the punctuator behind it
pub record ReadsClosed (scope : Scope) (level : Level) (close : List ℕ) (ts : List Lexeme) (e : Expression) (rest : List Lexeme) : Type 0 where
  pub behind : List Lexeme
  pub reads : ReadsExpression scope level 500 ts e behind
  pub closes : Next (Punctuator close) behind rest

abbrev pub ReadsSizes : List Lexeme → List Expression → List Lexeme → Type 0
ReadsSizes ts [] rest = (ts ≡ rest) × IsNoNext (Punctuator (codes "[")) ts
ReadsSizes ts (e ∷ es) rest =
    (inside : List Lexeme) × (behind : List Lexeme) × Next (Punctuator (codes "[")) ts inside
    × ReadsClosed scopes.File levels.Cond (codes "]") inside e behind × ReadsSizes behind es rest

pub record ReadsThree (ts : List Lexeme) (rows width stride : Expression) (rest : List Lexeme) : Type 0 where
  pub second : List Lexeme
  pub third : List Lexeme
  pub reads_rows : ReadsClosed scopes.File levels.Cond (codes ",") ts rows second
  pub reads_width : ReadsClosed scopes.File levels.Cond (codes ",") second width third
  pub reads_stride : ReadsClosed scopes.File levels.Cond (codes "}") third stride rest

-- a block behind a parameter of this name and the opening brace
abbrev pub ReadsBlock : List ℕ → List Lexeme → Argument → List Lexeme → Type 0
ReadsBlock name ts (Plain other sizes) rest = ⊥
ReadsBlock name ts (Strided other rows width stride) rest = (other ≡ name) × ReadsThree ts rows width stride rest

-- what stands behind a parameter's name
abbrev pub ReadsBehind : List Lexeme → Argument → List Lexeme → Type 0
ReadsBehind ts (Plain name sizes) rest = IsNoNext (Punctuator (codes "{")) ts × ReadsSizes ts sizes rest
ReadsBehind ts (Strided name rows width stride) rest =
    (inside : List Lexeme) × Next (Punctuator (codes "{")) ts inside × ReadsThree inside rows width stride rest

abbrev pub name_of : Argument → List ℕ
name_of (Plain name sizes) = name
name_of (Strided name rows width stride) = name

pub record ReadsArgument (ts : List Lexeme) (a : Argument) (rest : List Lexeme) : Type 0 where
  pub behind : List Lexeme
  pub reads_name : ReadsName ts (name_of a) behind
  pub reads_behind : ReadsBehind behind a rest

abbrev pub ReadsFurther : List Lexeme → List Argument → List Lexeme → Type 0
ReadsFurther ts [] rest = Next (Punctuator (codes ")")) ts rest
ReadsFurther ts (a ∷ all) rest =
    (behind : List Lexeme) × (next : List Lexeme) × Next (Punctuator (codes ",")) ts behind × ReadsArgument behind a next
    × ReadsFurther next all rest

-- one or more of them
abbrev pub ReadsSome : List Lexeme → List Argument → List Lexeme → Type 0
ReadsSome ts [] rest = ⊥
ReadsSome ts (a ∷ all) rest = (next : List Lexeme) × ReadsArgument ts a next × ReadsFurther next all rest

abbrev pub ReadsArguments : List Lexeme → List Argument → List Lexeme → Type 0
ReadsArguments ts [] rest = Next (Punctuator (codes ")")) ts rest
ReadsArguments ts (a ∷ all) rest = (next : List Lexeme) × ReadsArgument ts a next × ReadsFurther next all rest

abbrev pub ReadsClause : List Lexeme → Clause → List Lexeme → Type 0
ReadsClause ts (Arguments direction all) rest =
    (behind : List Lexeme) × (inside : List Lexeme) × Next (Word (direction_text direction)) ts behind
    × Next (Punctuator (codes "(")) behind inside × ReadsArguments inside all rest
ReadsClause ts HighPriority rest = Next (Word (codes "highpriority")) ts rest

abbrev pub ReadsClauses : List Lexeme → List Clause → Type 0
ReadsClauses ts [] = ts ≡ []
ReadsClauses ts (c ∷ all) = (rest : List Lexeme) × ReadsClause ts c rest × ReadsClauses rest all

abbrev pub ReadsFurtherAddresses : List Lexeme → List Expression → List Lexeme → Type 0
ReadsFurtherAddresses ts [] rest = Next (Punctuator (codes ")")) ts rest
ReadsFurtherAddresses ts (e ∷ es) rest =
    (behind : List Lexeme) × (next : List Lexeme) × Next (Punctuator (codes ",")) ts behind
    × ReadsExpression scopes.Block levels.Assign 500 behind e next × ReadsFurtherAddresses next es rest

abbrev pub ReadsAddresses : List Lexeme → List Expression → List Lexeme → Type 0
ReadsAddresses ts [] rest = ⊥
ReadsAddresses ts (e ∷ es) rest =
    (next : List Lexeme) × ReadsExpression scopes.Block levels.Assign 500 ts e next × ReadsFurtherAddresses next es rest

-- the addresses of a `wait`
pub record ReadsWait (ts : List Lexeme) (addresses : List Expression) : Type 0 where
  pub first : List Lexeme
  pub second : List Lexeme
  pub inside : List Lexeme
  pub reads_wait : Next (Word (codes "wait")) ts first
  pub reads_on : Next (Word (codes "on")) first second
  pub opens : Next (Punctuator (codes "(")) second inside
  pub reads_addresses : ReadsAddresses inside addresses []

-- the clauses of a `task`
pub record ReadsTask (ts : List Lexeme) (clauses : List Clause) : Type 0 where
  pub rest : List Lexeme
  pub reads_task : Next (Word (codes "task")) ts rest
  pub reads_clauses : ReadsClauses rest clauses
  pub once : count_by is_priority clauses ≤ 1

abbrev pub ReadsDirective : Place → ℕ → List Lexeme → Directive → Type 0
ReadsDirective places.BeforeFunction line ts (Task own clauses) = (own ≡ line) × ReadsTask ts clauses
ReadsDirective places.InBlock line ts (Start own) = (own ≡ line) × Next (Word (codes "start")) ts []
ReadsDirective places.InBlock line ts (Finish own) = (own ≡ line) × Next (Word (codes "finish")) ts []
ReadsDirective places.InBlock line ts (Barrier own) = (own ≡ line) × Next (Word (codes "barrier")) ts []
ReadsDirective places.InBlock line ts (Wait own addresses) = (own ≡ line) × ReadsWait ts addresses
ReadsDirective place line ts d = ⊥

-- Which tokens spell which statement (C99 6.8).
--   block := "{" { specs decls ";" | DIRECTIVE | stmt } "}"
--   stmt  := block | [ expr ] ";"
--          | "if" "(" expr ")" stmt [ "else" stmt ]
--          | "while" "(" expr ")" stmt
--          | "do" stmt "while" "(" expr ")" ";"
--          | "for" "(" ( specs decls ";" | [ expr ] ";" ) [ expr ] ";" [ expr ] ")" stmt
--          | "break" ";" | "continue" ";" | "return" [ expr ] ";"
use Rattle.std.specs.Prelude.{◌≡◌, ℕ, List, [], ◌∷◌, codes, Bool, true, false}
use Rattle.css_base.specs.Tokens as tokens
use Rattle.css_base.specs.Tokens.{Lexeme}
use Rattle.css_tree.specs.declared.scope.Scope.TheVariants as scopes
use Rattle.css_tree.specs.Syntax.{Mark, ForStart, DeclareFirst, EvaluateFirst, Statement, Block, Evaluate, If, IfElse, While, Do, For, Break, Continue, Return, Entry, Declared, Marked, Stated, Entries, NoEntries, MoreEntries}
use Rattle.css_tree.specs.TokenParts.{One, These, mark, word, Are, first_line}
use Rattle.css_tree.specs.Expressions.{expr, SpellsExpression}
use Rattle.css_tree.specs.Declarations.{SpellsOptional, SpellsDeclaration}

-- The statement ends in an `if` without `else`, to which an `else` behind it belongs: it belongs to the nearest `if`
-- (C99 6.8.4.1).
abbrev pub takes_else : Statement → Bool
takes_else (If line e s) = true
takes_else (IfElse line e s other) = takes_else other
takes_else (While line e s) = takes_else s
takes_else (For line start condition step s) = takes_else s
takes_else s = false

-- DIRECTIVE
pub record SpellsMark (ts : List Lexeme) (m : Mark) : Type 0 where
  pub is : Are ts (One (tokens.Directive m.words) ∷ [])
  pub line_is : first_line ts ≡ m.line

-- specs decls ";" | [ expr ] ";"
abbrev pub SpellsForStart : List Lexeme → ForStart → Type 0
SpellsForStart ts (DeclareFirst d) = SpellsDeclaration scopes.Block ts d
SpellsForStart ts (EvaluateFirst value) =
    (us : List Lexeme) × Are ts (These us ∷ mark (codes ";") ∷ []) × SpellsOptional scopes.Block expr us value

abbrev mutual
  pub SpellsStatement : List Lexeme → Statement → Type 0
  SpellsStatement ts (Block line entries) =
      (us : List Lexeme) × Are ts (mark (codes "{") ∷ These us ∷ mark (codes "}") ∷ []) × (first_line ts ≡ line) × SpellsEntries us entries
  SpellsStatement ts (Evaluate line value) =
      (us : List Lexeme) × Are ts (These us ∷ mark (codes ";") ∷ []) × (first_line ts ≡ line) × SpellsOptional scopes.Block expr us value
  SpellsStatement ts (If line e s) =
      (us : List Lexeme) × (vs : List Lexeme)
      × Are ts (word (codes "if") ∷ mark (codes "(") ∷ These us ∷ mark (codes ")") ∷ These vs ∷ []) × (first_line ts ≡ line)
      × SpellsExpression scopes.Block expr us e × SpellsStatement vs s
  SpellsStatement ts (IfElse line e s other) =
      (us : List Lexeme) × (vs : List Lexeme) × (ws : List Lexeme)
      × Are ts (word (codes "if") ∷ mark (codes "(") ∷ These us ∷ mark (codes ")") ∷ These vs ∷ word (codes "else") ∷ These ws ∷ []) × (first_line ts ≡ line)
      × SpellsExpression scopes.Block expr us e × SpellsStatement vs s × (takes_else s ≡ false) × SpellsStatement ws other
  SpellsStatement ts (While line e s) =
      (us : List Lexeme) × (vs : List Lexeme)
      × Are ts (word (codes "while") ∷ mark (codes "(") ∷ These us ∷ mark (codes ")") ∷ These vs ∷ []) × (first_line ts ≡ line)
      × SpellsExpression scopes.Block expr us e × SpellsStatement vs s
  SpellsStatement ts (Do line s e) =
      (us : List Lexeme) × (vs : List Lexeme)
      × Are ts (word (codes "do") ∷ These us ∷ word (codes "while") ∷ mark (codes "(") ∷ These vs ∷ mark (codes ")") ∷ mark (codes ";") ∷ []) × (first_line ts ≡ line)
      × SpellsStatement us s × SpellsExpression scopes.Block expr vs e
  SpellsStatement ts (For line start condition step s) =
      (us : List Lexeme) × (vs : List Lexeme) × (ws : List Lexeme) × (xs : List Lexeme)
      × Are ts (word (codes "for") ∷ mark (codes "(") ∷ These us ∷ These vs ∷ mark (codes ";") ∷ These ws ∷ mark (codes ")") ∷ These xs ∷ []) × (first_line ts ≡ line)
      × SpellsForStart us start × SpellsOptional scopes.Block expr vs condition × SpellsOptional scopes.Block expr ws step × SpellsStatement xs s
  SpellsStatement ts (Break line) = Are ts (word (codes "break") ∷ mark (codes ";") ∷ []) × (first_line ts ≡ line)
  SpellsStatement ts (Continue line) = Are ts (word (codes "continue") ∷ mark (codes ";") ∷ []) × (first_line ts ≡ line)
  SpellsStatement ts (Return line value) =
      (us : List Lexeme) × Are ts (word (codes "return") ∷ These us ∷ mark (codes ";") ∷ []) × (first_line ts ≡ line) × SpellsOptional scopes.Block expr us value

  -- { specs decls ";" | DIRECTIVE | stmt }
  pub SpellsEntries : List Lexeme → Entries → Type 0
  SpellsEntries ts NoEntries = ts ≡ []
  SpellsEntries ts (MoreEntries first others) =
      (us : List Lexeme) × (vs : List Lexeme) × Are ts (These us ∷ These vs ∷ []) × SpellsEntry us first × SpellsEntries vs others

  pub SpellsEntry : List Lexeme → Entry → Type 0
  SpellsEntry ts (Declared d) = SpellsDeclaration scopes.Block ts d
  SpellsEntry ts (Marked m) = SpellsMark ts m
  SpellsEntry ts (Stated s) = SpellsStatement ts s

-- block
abbrev pub SpellsBlock : List Lexeme → ℕ → Entries → Type 0
SpellsBlock ts line entries = SpellsStatement ts (Block line entries)

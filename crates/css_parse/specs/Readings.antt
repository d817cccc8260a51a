-- What is read from the front of some tokens, and of how many levels at most. Each part goes on as long as it can: an
-- expression, and an `if`, to which an `else` behind it belongs. The other parts end by themselves.
use Rattle.std.specs.Prelude.{◌≡◌, ℕ, ◌-◌, ◌<◌, ◌≤◌, List, [], ◌∷◌, ◌++◌, codes, Bool, true, false, Option, Some, None}
use Rattle.css_base.specs.Tokens as tokens
use Rattle.css_base.specs.Tokens.{Kind, Word, Punctuator, Lexeme, At, Lexemes}
use Rattle.css_tree.specs.declared.scope.Scope.{Scope}
use Rattle.css_tree.specs.declared.scope.Scope.TheVariants as scopes
use Rattle.css_tree.specs.declared.words.Specifier.{Specifier}
use Rattle.css_tree.specs.Syntax as tree
use Rattle.css_tree.specs.Syntax.{Stars, Expression, Dimensions, Initialiser, Value, String, Braces, Initialisers, NoParts, MoreParts, Declarator, Declaration}
use Rattle.css_tree.specs.Syntax.{Mark, ForStart, DeclareFirst, EvaluateFirst, Statement, Entry, Entries, NoEntries, MoreEntries}
use Rattle.css_tree.specs.Syntax.{Parameter, Parameters, Empty, VoidAlone, Listed, Body, Function, Item, Define, Declare, Tree}
use Rattle.css_tree.specs.TokenParts.{kind_at, line_of, first_line}
use Rattle.css_tree.specs.Words.{IsName}
use Rattle.css_tree.specs.Heights.{height, height_of_initialiser}
use Rattle.css_pexpr.specs.declared.level.Level.{Level}
use Rattle.css_pexpr.specs.declared.level.Level.TheVariants as levels
use Rattle.css_pexpr.specs.Longest.{IsLongest}
use Rattle.css_parse.specs.declared.form.Form.{Form}
use Rattle.css_parse.specs.declared.form.Form.TheVariants as forms
use Rattle.css_parse.specs.Fronts.{Next}
use Rattle.css_parse.specs.Forms.{form_of}
use Rattle.css_parse.specs.Words.{next_specifier, ReadsSpecifiers, ReadsStars}

-- nothing of this kind is next
abbrev pub IsNoNext : Kind → List Lexeme → Type 0
IsNoNext kind ts = (behind : List Lexeme) → Next kind ts behind → ⊥

-- ---- expressions

-- the longest expression, of at most so many levels
pub record ReadsExpression (scope : Scope) (level : Level) (most : ℕ) (ts : List Lexeme) (e : Expression) (rest : List Lexeme) : Type 0 where
  pub longest : IsLongest scope level ts e rest
  pub low : height e ≤ most

-- an expression that may be left out, and a punctuator
abbrev pub ReadsOptional : Scope → Level → List ℕ → ℕ → List Lexeme → Option Expression → List Lexeme → Type 0
ReadsOptional scope level close most ts None rest = Next (Punctuator close) ts rest
ReadsOptional scope level close most ts (Some e) rest =
    (behind : List Lexeme) × IsNoNext (Punctuator close) ts × ReadsExpression scope level most ts e behind × Next (Punctuator close) behind rest

-- an expression in parentheses
abbrev pub ReadsCondition : ℕ → List Lexeme → Expression → List Lexeme → Type 0
ReadsCondition most ts e rest =
    (inside : List Lexeme) × (behind : List Lexeme) × Next (Punctuator (codes "(")) ts inside
    × ReadsExpression scopes.Block levels.Expr most inside e behind × Next (Punctuator (codes ")")) behind rest

-- ---- declarators

abbrev pub ReadsDimensions : Scope → ℕ → List Lexeme → Dimensions → List Lexeme → Type 0
ReadsDimensions scope most ts [] rest = (ts ≡ rest) × IsNoNext (Punctuator (codes "[")) ts
ReadsDimensions scope most ts (size ∷ sizes) rest =
    (inside : List Lexeme) × (behind : List Lexeme) × Next (Punctuator (codes "[")) ts inside
    × ReadsOptional scope levels.Cond (codes "]") most inside size behind × ReadsDimensions scope most behind sizes rest

-- What an expression is as an initialiser: a string where it begins with one and is no more, and else a value.
abbrev pub valued : List Lexeme → Expression → Initialiser
valued (At (tokens.Text bytes) line place end ∷ ts) (tree.Text other text) = String other text
valued ts e = Value e

mutual
  pub data ReadsInitialiser (scope : Scope) (most : ℕ) : (ts : List Lexeme) (i : Initialiser) (rest : List Lexeme) → Type 0 where
    Valued : {ts rest : List Lexeme} {i : Initialiser} (e : Expression) → IsNoNext (Punctuator (codes "{")) ts
        → IsLongest scope levels.Assign ts e rest → i ≡ valued ts e → height_of_initialiser i ≤ most → ReadsInitialiser scope most ts i rest
    Braced : {ts rest : List Lexeme} {line : ℕ} {parts : Initialisers} (inside : List Lexeme) → Next (Punctuator (codes "{")) ts inside → first_line ts ≡ line
        → ReadsParts scope most inside parts rest → ReadsInitialiser scope most ts (Braces line parts) rest

  -- init { "," init } [ "," ] "}"
  pub data ReadsParts (scope : Scope) (most : ℕ) : (ts : List Lexeme) (parts : Initialisers) (rest : List Lexeme) → Type 0 where
    Parts : {ts rest : List Lexeme} {first : Initialiser} {others : Initialisers} (behind : List Lexeme)
        → ReadsInitialiser scope most ts first behind → ReadsFurtherParts scope most behind others rest → ReadsParts scope most ts (MoreParts first others) rest

  -- { "," init } [ "," ] "}"
  pub data ReadsFurtherParts (scope : Scope) (most : ℕ) : (ts : List Lexeme) (parts : Initialisers) (rest : List Lexeme) → Type 0 where
    Closed : {ts rest : List Lexeme} → Next (Punctuator (codes "}")) ts rest → ReadsFurtherParts scope most ts NoParts rest
    ClosedBehindComma : {ts rest : List Lexeme} (behind : List Lexeme) → Next (Punctuator (codes ",")) ts behind → Next (Punctuator (codes "}")) behind rest
        → ReadsFurtherParts scope most ts NoParts rest
    Further : {ts rest : List Lexeme} {parts : Initialisers} (behind : List Lexeme) → Next (Punctuator (codes ",")) ts behind
        → IsNoNext (Punctuator (codes "}")) behind → ReadsParts scope most behind parts rest → ReadsFurtherParts scope most ts parts rest

-- [ "=" init ]
abbrev pub ReadsInitial : Scope → ℕ → List Lexeme → Option Initialiser → List Lexeme → Type 0
ReadsInitial scope most ts None rest = (ts ≡ rest) × IsNoNext (Punctuator (codes "=")) ts
ReadsInitial scope most ts (Some i) rest = (behind : List Lexeme) × Next (Punctuator (codes "=")) ts behind × ReadsInitialiser scope most behind i rest

-- a name
pub record ReadsName (ts : List Lexeme) (name : List ℕ) (rest : List Lexeme) : Type 0 where
  pub word : Next (Word name) ts rest
  pub named : IsName name

-- stars and a name
pub record ReadsHead (ts : List Lexeme) (stars : Stars) (name : List ℕ) (rest : List Lexeme) : Type 0 where
  pub behind : List Lexeme
  pub reads_stars : ReadsStars ts stars behind
  pub reads_name : ReadsName behind name rest

-- the sizes and the initialiser behind a name
pub record ReadsTail (scope : Scope) (most : ℕ) (ts : List Lexeme) (sizes : Dimensions) (initial : Option Initialiser) (rest : List Lexeme) : Type 0 where
  pub behind : List Lexeme
  pub reads_dimensions : ReadsDimensions scope most ts sizes behind
  pub reads_initial : ReadsInitial scope most behind initial rest

pub record ReadsDeclarator (scope : Scope) (most : ℕ) (ts : List Lexeme) (d : Declarator) (rest : List Lexeme) : Type 0 where
  pub behind : List Lexeme
  pub line_is : first_line ts ≡ d.line
  pub head : ReadsHead ts d.stars d.name behind
  pub tail : ReadsTail scope most behind d.dimensions d.initialiser rest

-- { "," decl } ";"
abbrev pub ReadsFurtherDeclarators : Scope → ℕ → List Lexeme → List Declarator → List Lexeme → Type 0
ReadsFurtherDeclarators scope most ts [] rest = Next (Punctuator (codes ";")) ts rest
ReadsFurtherDeclarators scope most ts (d ∷ ds) rest =
    (behind : List Lexeme) × (next : List Lexeme) × Next (Punctuator (codes ",")) ts behind × ReadsDeclarator scope most behind d next
    × ReadsFurtherDeclarators scope most next ds rest

-- decl { "," decl } ";"
abbrev pub ReadsDeclarators : Scope → ℕ → List Lexeme → List Declarator → List Lexeme → Type 0
ReadsDeclarators scope most ts [] rest = ⊥
ReadsDeclarators scope most ts (d ∷ ds) rest =
    (next : List Lexeme) × ReadsDeclarator scope most ts d next × ReadsFurtherDeclarators scope most next ds rest

-- A declaration is one level.
pub record ReadsDeclaration (scope : Scope) (most : ℕ) (ts : List Lexeme) (d : Declaration) (rest : List Lexeme) : Type 0 where
  pub behind : List Lexeme
  pub some : 0 < most
  pub line_is : first_line ts ≡ d.line
  pub reads_specifiers : ReadsSpecifiers scope ts d.specifiers behind
  pub reads_declarators : ReadsDeclarators scope (most - 1) behind d.declarators rest

-- ---- statements

-- a directive, which begins no statement
pub record ReadsMark (ts : List Lexeme) (m : Mark) (rest : List Lexeme) : Type 0 where
  pub next : Next (tokens.Directive m.words) ts rest
  pub line_is : first_line ts ≡ m.line

-- specs decls ";" | [ expr ] ";"
abbrev pub ReadsForStart : ℕ → List Lexeme → ForStart → List Lexeme → Type 0
ReadsForStart most ts (DeclareFirst d) rest = ReadsDeclaration scopes.Block most ts d rest
ReadsForStart most ts (EvaluateFirst value) rest = (next_specifier scopes.Block ts ≡ None) × ReadsOptional scopes.Block levels.Expr (codes ";") most ts value rest

-- the head of a `for` behind its keyword
pub record ReadsForHead (most : ℕ) (ts : List Lexeme) (start : ForStart) (condition step : Option Expression) (rest : List Lexeme) : Type 0 where
  pub inside : List Lexeme
  pub second : List Lexeme
  pub third : List Lexeme
  pub opens : Next (Punctuator (codes "(")) ts inside
  pub reads_start : ReadsForStart most inside start second
  pub reads_condition : ReadsOptional scopes.Block levels.Expr (codes ";") most second condition third
  pub reads_step : ReadsOptional scopes.Block levels.Expr (codes ")") most third step rest

mutual
  -- A statement is one level. Its first token tells its form.
  pub data ReadsStatement : (most : ℕ) (ts : List Lexeme) (s : Statement) (rest : List Lexeme) → Type 0 where
    Formed : {most : ℕ} {ts rest : List Lexeme} {s : Statement} (t : Lexeme) (behind : List Lexeme) (f : Form) → 0 < most → ts ≡ t ∷ behind
        → form_of (kind_at t) ≡ Some f → ReadsForm f (most - 1) (line_of t) behind s rest → ReadsStatement most ts s rest
    Evaluated : {most : ℕ} {ts rest : List Lexeme} {value : Option Expression} (t : Lexeme) (behind : List Lexeme) {line : ℕ} → 0 < most → ts ≡ t ∷ behind → line ≡ line_of t
        → form_of (kind_at t) ≡ None → ReadsOptional scopes.Block levels.Expr (codes ";") (most - 1) ts value rest
        → ReadsStatement most ts (tree.Evaluate line value) rest

  -- a statement of a form and a line, behind its first token
  pub data ReadsForm : (f : Form) (most line : ℕ) (ts : List Lexeme) (s : Statement) (rest : List Lexeme) → Type 0 where
    Block : {most line : ℕ} {ts rest : List Lexeme} {entries : Entries} → ReadsEntries most ts entries rest
        → ReadsForm forms.Block most line ts (tree.Block line entries) rest
    If : {most line : ℕ} {ts rest : List Lexeme} {e : Expression} {s : Statement} (behind : List Lexeme) → ReadsCondition most ts e behind
        → ReadsStatement most behind s rest → IsNoNext (Word (codes "else")) rest → ReadsForm forms.If most line ts (tree.If line e s) rest
    IfElse : {most line : ℕ} {ts rest : List Lexeme} {e : Expression} {s other : Statement} (behind middle next : List Lexeme) → ReadsCondition most ts e behind
        → ReadsStatement most behind s middle → Next (Word (codes "else")) middle next → ReadsStatement most next other rest
        → ReadsForm forms.If most line ts (tree.IfElse line e s other) rest
    While : {most line : ℕ} {ts rest : List Lexeme} {e : Expression} {s : Statement} (behind : List Lexeme) → ReadsCondition most ts e behind
        → ReadsStatement most behind s rest → ReadsForm forms.While most line ts (tree.While line e s) rest
    Do : {most line : ℕ} {ts rest : List Lexeme} {e : Expression} {s : Statement} (behind next last : List Lexeme) → ReadsStatement most ts s behind
        → Next (Word (codes "while")) behind next → ReadsCondition most next e last → Next (Punctuator (codes ";")) last rest
        → ReadsForm forms.Do most line ts (tree.Do line s e) rest
    For : {most line : ℕ} {ts rest : List Lexeme} {start : ForStart} {condition step : Option Expression} {s : Statement} (behind : List Lexeme)
        → ReadsForHead most ts start condition step behind → ReadsStatement most behind s rest
        → ReadsForm forms.For most line ts (tree.For line start condition step s) rest
    Break : {most line : ℕ} {ts rest : List Lexeme} → Next (Punctuator (codes ";")) ts rest → ReadsForm forms.Break most line ts (tree.Break line) rest
    Continue : {most line : ℕ} {ts rest : List Lexeme} → Next (Punctuator (codes ";")) ts rest → ReadsForm forms.Continue most line ts (tree.Continue line) rest
    Return : {most line : ℕ} {ts rest : List Lexeme} {value : Option Expression} → ReadsOptional scopes.Block levels.Expr (codes ";") most ts value rest
        → ReadsForm forms.Return most line ts (tree.Return line value) rest

  -- what stands in a block, and the brace that closes it
  pub data ReadsEntries : (most : ℕ) (ts : List Lexeme) (entries : Entries) (rest : List Lexeme) → Type 0 where
    Closed : {most : ℕ} {ts rest : List Lexeme} → Next (Punctuator (codes "}")) ts rest → ReadsEntries most ts NoEntries rest
    More : {most : ℕ} {ts rest : List Lexeme} {e : Entry} {others : Entries} (behind : List Lexeme) → IsNoNext (Punctuator (codes "}")) ts
        → ReadsEntry most ts e behind → ReadsEntries most behind others rest → ReadsEntries most ts (MoreEntries e others) rest

  pub data ReadsEntry : (most : ℕ) (ts : List Lexeme) (e : Entry) (rest : List Lexeme) → Type 0 where
    MarkIn : {most : ℕ} {ts rest : List Lexeme} {m : Mark} → ReadsMark ts m rest → ReadsEntry most ts (tree.Marked m) rest
    DeclaredIn : {most : ℕ} {ts rest : List Lexeme} {d : Declaration} → ReadsDeclaration scopes.Block most ts d rest → ReadsEntry most ts (tree.Declared d) rest
    StatedIn : {most : ℕ} {ts rest : List Lexeme} {s : Statement} → ((m : Mark) (behind : List Lexeme) → ReadsMark ts m behind → ⊥) → next_specifier scopes.Block ts ≡ None
        → ReadsStatement most ts s rest → ReadsEntry most ts (tree.Stated s) rest

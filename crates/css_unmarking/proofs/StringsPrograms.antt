-- In a spelled program no two strings meet.
use Rattle.std.proofs.Common.{ℕ, true, false, List, [], ◌∷◌, Option, Some, None, inl, inr}
use Rattle.css_base.specs.Tokens.{Lexeme}
use Rattle.css_tree.specs.declared.scope.Scope.{Scope}
use Rattle.css_tree.specs.Syntax.{Expression, Dimensions, Initialiser, Value, String, Braces, Initialisers, NoParts, MoreParts, Declarator, Declaration}
use Rattle.css_tree.specs.Syntax.{Mark, ForStart, DeclareFirst, EvaluateFirst, Statement, Block, Evaluate, If, IfElse, While, Do, For, Break, Continue, Return, Entry, Declared, Marked, Stated, Entries, NoEntries, MoreEntries}
use Rattle.css_tree.specs.Syntax.{Parameter, Parameters, Empty, VoidAlone, Listed, Body, Function, Item, Define, Declare, Tree}
use Rattle.css_tree.specs.Declarations.{SpellsOptional, SpellsDimensions, IsOptionalComma, SpellsInitialiser, SpellsParts, SpellsFurtherParts, SpellsInitial, SpellsDeclarator, SpellsBehindCommas, SpellsBetweenCommas, SpellsDeclaration}
use Rattle.css_tree.specs.Statements.{SpellsMark, SpellsForStart, SpellsStatement, SpellsEntries, SpellsEntry}
use Rattle.css_tree.specs.Items.{SpellsOptionalName, SpellsParameter, SpellsParameters, SpellsOptionalMark, SpellsBody, SpellsFunction, SpellsItem, SpellsProgram}
use Rattle.css_lex.specs.WithoutDirectives.{HasPartedStrings}
use Rattle.css_unmarking.proofs.StringsApart as apart
use Rattle.css_unmarking.proofs.StringsApart.{Clear, Leads, Done, Tokens, Other, led, loose, nothing, none_parted}
use Rattle.css_unmarking.proofs.StringsExpressions.{specifiers, stars, expression}

-- ---- lists

module _ {A : Type 0} (Spells : List Lexeme → A → Type 0) (one : (ts : List Lexeme) (x : A) → Spells ts x → Leads false true ts) where
  behind_commas : (ts : List Lexeme) (xs : List A) → SpellsBehindCommas Spells ts xs → Leads true true ts
  behind_commas ts [] s = nothing s
  behind_commas ts (x ∷ xs) (us, vs, are, s, more) = led ts (Other tt (Tokens (one us x s) (Tokens (behind_commas vs xs more) Done))) are

  between_commas : (ts : List Lexeme) (xs : List A) → SpellsBetweenCommas Spells ts xs → Leads false true ts
  between_commas ts [] s = absurd s
  between_commas ts (x ∷ xs) (us, vs, are, s, more) = led ts (Tokens (one us x s) (Tokens (behind_commas vs xs more) Done)) are

optional : (scope : Scope) (k : ℕ) (ts : List Lexeme) (value : Option Expression) → SpellsOptional scope k ts value → Leads false true ts
optional scope k ts None s = loose (nothing s)
optional scope k ts (Some e) s = expression s

-- ---- declarations

dimensions : (scope : Scope) (ts : List Lexeme) (sizes : Dimensions) → SpellsDimensions scope ts sizes → Leads false false ts
dimensions scope ts [] s = nothing s
dimensions scope ts (size ∷ sizes) (us, vs, are, s, more) =
    led ts (Other tt (Tokens (optional scope _ us size s) (Other tt (Tokens (dimensions scope vs sizes more) Done)))) are

comma : (ts : List Lexeme) → IsOptionalComma ts → Leads true true ts
comma ts (inl none) = nothing none
comma ts (inr are) = loose (led ts (Other tt Done) are)

mutual
  initialiser : (scope : Scope) (ts : List Lexeme) (i : Initialiser) → SpellsInitialiser scope ts i → Leads false true ts
  initialiser scope ts (Value e) s = expression s.0
  initialiser scope ts (String line bytes) s = led ts (apart.String Done) s.0
  initialiser scope ts (Braces line all) (us, vs, are, line_is, s, last) =
      loose (led ts (Other tt (Tokens (parts scope us all s) (Tokens (comma vs last) (Other tt Done)))) are)

  parts : (scope : Scope) (ts : List Lexeme) (all : Initialisers) → SpellsParts scope ts all → Leads false true ts
  parts scope ts NoParts s = absurd s
  parts scope ts (MoreParts first others) (us, vs, are, s, more) =
      led ts (Tokens (initialiser scope us first s) (Tokens (further_parts scope vs others more) Done)) are

  further_parts : (scope : Scope) (ts : List Lexeme) (all : Initialisers) → SpellsFurtherParts scope ts all → Leads true true ts
  further_parts scope ts NoParts s = nothing s
  further_parts scope ts (MoreParts first others) (us, vs, are, s, more) =
      led ts (Other tt (Tokens (initialiser scope us first s) (Tokens (further_parts scope vs others more) Done))) are

initial : (scope : Scope) (ts : List Lexeme) (i : Option Initialiser) → SpellsInitial scope ts i → Leads false true ts
initial scope ts None s = loose (nothing s)
initial scope ts (Some i) (us, are, s) = led ts (Other tt (Tokens (initialiser scope us i s) Done)) are

declarator : (scope : Scope) (ts : List Lexeme) (d : Declarator) → SpellsDeclarator scope ts d → Leads false true ts
declarator scope ts d s =
    led ts (Tokens (stars s.stars d.stars s.spells_stars) (Other tt
    (Tokens (dimensions scope s.dimensions d.dimensions s.spells_dimensions) (Tokens (initial scope s.initial d.initialiser s.spells_initial) Done)))) s.parts

declaration : (scope : Scope) (ts : List Lexeme) (d : Declaration) → SpellsDeclaration scope ts d → Leads false false ts
declaration scope ts d s =
    led ts (Tokens (specifiers s.spells_specifiers)
    (Tokens (between_commas (SpellsDeclarator scope) (declarator scope) s.declarators d.declarators s.spells_declarators) (Other tt Done))) s.parts

-- ---- statements

directive : (ts : List Lexeme) (m : Mark) → SpellsMark ts m → Leads false false ts
directive ts m s = led ts (apart.Mark Done) s.is

start : (ts : List Lexeme) (first : ForStart) → SpellsForStart ts first → Leads false false ts
start ts (DeclareFirst d) s = declaration _ ts d s
start ts (EvaluateFirst value) (us, are, s) = led ts (Tokens (optional _ _ us value s) (Other tt Done)) are

mutual
  statement : (ts : List Lexeme) (s : Statement) → SpellsStatement ts s → Leads false false ts
  statement ts (Block line all) (us, are, line_is, s) = led ts (Other tt (Tokens (entries us all s) (Other tt Done))) are
  statement ts (Evaluate line value) (us, are, line_is, s) = led ts (Tokens (optional _ _ us value s) (Other tt Done)) are
  statement ts (If line e inner) (us, vs, are, line_is, x, s) =
      led ts (Other tt (Other tt (Tokens (expression x) (Other tt (Tokens (statement vs inner s) Done))))) are
  statement ts (IfElse line e inner other) (us, vs, ws, are, line_is, x, s, none, z) =
      led ts (Other tt (Other tt (Tokens (expression x) (Other tt (Tokens (statement vs inner s) (Other tt (Tokens (statement ws other z) Done))))))) are
  statement ts (While line e inner) (us, vs, are, line_is, x, s) =
      led ts (Other tt (Other tt (Tokens (expression x) (Other tt (Tokens (statement vs inner s) Done))))) are
  statement ts (Do line inner e) (us, vs, are, line_is, s, x) =
      led ts (Other tt (Tokens (statement us inner s) (Other tt (Other tt (Tokens (expression x) (Other tt (Other tt Done))))))) are
  statement ts (For line first condition step inner) (us, vs, ws, xs, are, line_is, r, c, p, s) =
      led ts (Other tt (Other tt (Tokens (start us first r) (Tokens (optional _ _ vs condition c) (Other tt
      (Tokens (optional _ _ ws step p) (Other tt (Tokens (statement xs inner s) Done)))))))) are
  statement ts (Break line) s = led ts (Other tt (Other tt Done)) s.0
  statement ts (Continue line) s = led ts (Other tt (Other tt Done)) s.0
  statement ts (Return line value) (us, are, line_is, s) = led ts (Other tt (Tokens (optional _ _ us value s) (Other tt Done))) are

  entries : (ts : List Lexeme) (all : Entries) → SpellsEntries ts all → Leads false false ts
  entries ts NoEntries s = nothing s
  entries ts (MoreEntries first others) (us, vs, are, s, more) = led ts (Tokens (entry us first s) (Tokens (entries vs others more) Done)) are

  entry : (ts : List Lexeme) (e : Entry) → SpellsEntry ts e → Leads false false ts
  entry ts (Declared d) s = declaration _ ts d s
  entry ts (Marked m) s = directive ts m s
  entry ts (Stated inner) s = statement ts inner s

-- ---- items

optional_name : (ts : List Lexeme) (name : Option (List ℕ)) → SpellsOptionalName ts name → Leads false false ts
optional_name ts None s = nothing s
optional_name ts (Some name) s = led ts (Other tt Done) s.0

parameter : (ts : List Lexeme) (p : Parameter) → SpellsParameter ts p → Leads false true ts
parameter ts p s =
    loose (led ts (Tokens (specifiers s.spells_specifiers) (Tokens (stars s.stars p.stars s.spells_stars)
    (Tokens (optional_name s.name p.name s.spells_name) (Tokens (dimensions _ s.dimensions p.dimensions s.spells_dimensions) Done)))) s.parts)

parameters : (ts : List Lexeme) (all : Parameters) → SpellsParameters ts all → Leads false true ts
parameters ts Empty s = loose (nothing s)
parameters ts VoidAlone s = loose (led ts (Other tt Done) s)
parameters ts (Listed all) s = between_commas SpellsParameter parameter ts all s.0

optional_directive : (ts : List Lexeme) (m : Option Mark) → SpellsOptionalMark ts m → Leads false false ts
optional_directive ts None s = nothing s
optional_directive ts (Some m) s = directive ts m s

body : (ts : List Lexeme) (b : Option Body) → SpellsBody ts b → Leads false false ts
body ts None s = led ts (Other tt Done) s
body ts (Some b) s = statement ts (Block b.line b.entries) s

function : (ts : List Lexeme) (f : Function) → SpellsFunction ts f → Leads false false ts
function ts f s =
    let rest = led s.rest (Tokens (specifiers s.spells_specifiers) (Tokens (stars s.stars f.stars s.spells_stars) (Other tt
    (Other tt (Tokens (parameters s.parameters f.parameters s.spells_parameters) (Other tt (Tokens (body s.body f.body s.spells_body) Done))))))) s.parts in
    led ts (Tokens (optional_directive s.directive f.directive s.spells_directive) (Tokens rest Done)) s.begins

item : (ts : List Lexeme) (i : Item) → SpellsItem ts i → Leads false false ts
item ts (Define f) s = function ts f s
item ts (Declare d) s = declaration _ ts d s

program : (ts : List Lexeme) (is : Tree) → SpellsProgram ts is → Leads false false ts
program ts [] s = nothing s
program ts (i ∷ is) (us, vs, are, s, more) = led ts (Tokens (item us i s) (Tokens (program vs is more) Done)) are

pub program_apart : (ts : List Lexeme) (is : Tree) → SpellsProgram ts is → HasPartedStrings ts → ⊥
program_apart ts is s = none_parted ts ((program ts is s).reads Clear tt)

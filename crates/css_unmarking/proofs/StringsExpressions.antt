-- In a spelled expression no two strings meet.
use Rattle.std.proofs.Common.{◌≡◌, true, false, List, [], ◌∷◌, ◌++◌, map, fold, refl, ap, ◌∙◌}
use Rattle.css_base.specs.Tokens.{Kind, Lexeme}
use Rattle.css_tree.specs.declared.scope.Scope.{Scope}
use Rattle.css_tree.specs.declared.words.Specifier.{Specifier}
use Rattle.css_tree.specs.declared.words.Qualifier.{Qualifier}
use Rattle.css_tree.specs.Syntax.{Stars, TypeName, Expression, Expressions}
use Rattle.css_tree.specs.Words.{specifier_kind, qualifier_kind, stars_kinds, SpellsSpecifiers, SpellsStars, SpellsTypeName}
use Rattle.css_tree.specs.Expressions.{SpellsExpression, Comma, Assign, Conditional, Binary, Cast, PreIncrement, PreDecrement, Unary, SizeofExpression, SizeofType, Index, PostIncrement, PostDecrement, Call, Name, Constant, Character, String, Parentheses, SpellsArguments, NoArguments, Arguments, SpellsFurther, NoFurther, Further}
use Rattle.css_unmarking.proofs.StringsApart as apart
use Rattle.css_unmarking.proofs.StringsApart.{Clear, behind, Leads, Done, Tokens, Other, led, loose, nothing, cleared}

-- ---- words

specifier_words : (all : List Specifier) → fold behind Clear (map specifier_kind all) ≡ Clear
specifier_words [] = refl
specifier_words (s ∷ all) = specifier_words all

qualifier_words : (all : List Qualifier) (rest : List Kind) → fold behind Clear (map qualifier_kind all ++ rest) ≡ fold behind Clear rest
qualifier_words [] rest = refl
qualifier_words (q ∷ all) rest = qualifier_words all rest

star_words : (stars : Stars) → fold behind Clear (stars_kinds stars) ≡ Clear
star_words [] = refl
star_words (star ∷ stars) = qualifier_words star (stars_kinds stars) ∙ star_words stars

pub specifiers : {scope : Scope} {ts : List Lexeme} {all : List Specifier} → SpellsSpecifiers scope ts all → Leads false false ts
specifiers {all = all} s = cleared (ap (fold behind Clear) s.words ∙ specifier_words all)

pub stars : (ts : List Lexeme) (all : Stars) → SpellsStars ts all → Leads false false ts
stars ts all s = cleared (ap (fold behind Clear) s ∙ star_words all)

type_name : {scope : Scope} {ts : List Lexeme} {type : TypeName} → SpellsTypeName scope ts type → Leads false false ts
type_name {ts = ts} {type = type} s = led ts (Tokens (specifiers s.specifiers) (Tokens (stars s.back type.stars s.stars) Done)) s.parts

-- ---- expressions

mutual
  pub expression : {scope : Scope} {k : _} {ts : List Lexeme} {e : Expression} → SpellsExpression scope k ts e → Leads false true ts
  expression {ts = ts} (Comma us vs low line are x y) = led ts (Tokens (expression x) (Other tt (Tokens (expression y) Done))) are
  expression {ts = ts} (Assign op us vs low line are x y) = led ts (Tokens (expression x) (Other tt (Tokens (expression y) Done))) are
  expression {ts = ts} (Conditional us vs ws low line are x y z) =
      led ts (Tokens (expression x) (Other tt (Tokens (expression y) (Other tt (Tokens (expression z) Done))))) are
  expression {ts = ts} (Binary op us vs low line are x y) = led ts (Tokens (expression x) (Other tt (Tokens (expression y) Done))) are
  expression {ts = ts} (Cast type us vs low line are t x) = led ts (Other tt (Tokens (type_name t) (Other tt (Tokens (expression x) Done)))) are
  expression {ts = ts} (PreIncrement us low line are x) = led ts (Other tt (Tokens (expression x) Done)) are
  expression {ts = ts} (PreDecrement us low line are x) = led ts (Other tt (Tokens (expression x) Done)) are
  expression {ts = ts} (Unary op us low line are x) = led ts (Other tt (Tokens (expression x) Done)) are
  expression {ts = ts} (SizeofExpression us low line are x) = led ts (Other tt (Tokens (expression x) Done)) are
  expression {ts = ts} (SizeofType type us low line are t) = loose (led ts (Other tt (Other tt (Tokens (type_name t) (Other tt Done)))) are)
  expression {ts = ts} (Index us vs low line are x y) = loose (led ts (Tokens (expression x) (Other tt (Tokens (expression y) (Other tt Done)))) are)
  expression {ts = ts} (PostIncrement us low line are x) = loose (led ts (Tokens (expression x) (Other tt Done)) are)
  expression {ts = ts} (PostDecrement us low line are x) = loose (led ts (Tokens (expression x) (Other tt Done)) are)
  expression {ts = ts} (Call name us low line are n all) = loose (led ts (Other tt (Other tt (Tokens (arguments all) (Other tt Done)))) are)
  expression {ts = ts} (Name name line are n) = loose (led ts (Other tt Done) are)
  expression {ts = ts} (Constant type value line are) = loose (led ts (Other tt Done) are)
  expression {ts = ts} (Character byte line are) = loose (led ts (Other tt Done) are)
  expression {ts = ts} (String bytes line are) = led ts (apart.String Done) are
  expression {ts = ts} (Parentheses us are x) = loose (led ts (Other tt (Tokens (expression x) (Other tt Done))) are)

  arguments : {scope : Scope} {ts : List Lexeme} {all : Expressions} → SpellsArguments scope ts all → Leads false true ts
  arguments (NoArguments none) = loose (nothing none)
  arguments {ts = ts} (Arguments us vs parts x more) = led ts (Tokens (expression x) (Tokens (further more) Done)) (vs, parts, refl)

  further : {scope : Scope} {ts : List Lexeme} {all : Expressions} → SpellsFurther scope ts all → Leads true true ts
  further (NoFurther none) = nothing none
  further {ts = ts} (Further us vs are x more) = led ts (Other tt (Tokens (expression x) (Tokens (further more) Done))) are

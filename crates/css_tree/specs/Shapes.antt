-- The code's trees as abstract syntax.
use Rattle.std.specs.Prelude.{ℕ, List, [], ◌∷◌, map, Option}
use Rattle.std.specs.Option.{option_map}
use Rattle.css_base.specs.Tokens as tokens
use Rattle.css_base.specs.Tokens.{Lexeme, Lexemes, lexemes}
use Rattle.css_tree.specs.declared.words.Star.{Star}
use Rattle.css_tree.specs.declared.words.TypeName as coded_type
use Rattle.css_tree.specs.declared.expression.Expression as code
use Rattle.css_tree.specs.declared.declaration.Initialiser as initial
use Rattle.css_tree.specs.declared.declaration.Declarator as declarators
use Rattle.css_tree.specs.declared.declaration.Declaration as declared
use Rattle.css_tree.specs.declared.directive.Mark as marks
use Rattle.css_tree.specs.declared.directive.Argument.{Argument}
use Rattle.css_tree.specs.declared.directive.Argument.TheVariants as arguments
use Rattle.css_tree.specs.declared.directive.Clause.{Clause}
use Rattle.css_tree.specs.declared.directive.Clause.TheVariants as clauses
use Rattle.css_tree.specs.declared.directive.Directive.{Directive}
use Rattle.css_tree.specs.declared.directive.Directive.TheVariants as directives
use Rattle.css_tree.specs.declared.statement.ForStart.{ForStart}
use Rattle.css_tree.specs.declared.statement.ForStart.TheVariants as starts
use Rattle.css_tree.specs.declared.statement.Statement as stated
use Rattle.css_tree.specs.declared.statement.Block as blocks
use Rattle.css_tree.specs.declared.statement.Entry as entered
use Rattle.css_tree.specs.declared.item.Parameter as parametric
use Rattle.css_tree.specs.declared.item.Parameters.{Parameters}
use Rattle.css_tree.specs.declared.item.Parameters.TheVariants as lists
use Rattle.css_tree.specs.declared.item.Item.{Item}
use Rattle.css_tree.specs.declared.item.Item.TheVariants as items
use Rattle.css_tree.specs.declared.item.Tree as whole
use Rattle.css_tree.specs.Syntax.{Stars, TypeName, Expression, Comma, Assign, Conditional, Binary, Cast, PreIncrement, PreDecrement, Unary, SizeofExpression, SizeofType, Index, PostIncrement, PostDecrement, Call, Name, Number, Text, Expressions, End, More}
use Rattle.css_tree.specs.Syntax as syntax

-- ---- words

abbrev pub stars : List Star → Stars
stars all = map (λ star. star.qualifiers.items) all

abbrev pub type_name : coded_type.TypeName → TypeName
type_name t = record { specifiers = t.specifiers.items; stars = stars t.stars.items }

-- ---- expressions

abbrev mutual
  pub expression : code.Expression → Expression
  expression (code.Comma' line p left q right) = Comma line (expression left) (expression right)
  expression (code.Assign' line p place operator q value) = Assign line (expression place) operator (expression value)
  expression (code.Conditional' line p condition q first r second) = Conditional line (expression condition) (expression first) (expression second)
  expression (code.Binary' line p left operator q right) = Binary line (expression left) operator (expression right)
  expression (code.Cast' line to p operand) = Cast line (type_name to) (expression operand)
  expression (code.PreIncrement' line p operand) = PreIncrement line (expression operand)
  expression (code.PreDecrement' line p operand) = PreDecrement line (expression operand)
  expression (code.Unary' line operator p operand) = Unary line operator (expression operand)
  expression (code.SizeofExpression' line p operand) = SizeofExpression line (expression operand)
  expression (code.SizeofType line type) = SizeofType line (type_name type)
  expression (code.Index' line p array q index) = Index line (expression array) (expression index)
  expression (code.PostIncrement' line p operand) = PostIncrement line (expression operand)
  expression (code.PostDecrement' line p operand) = PostDecrement line (expression operand)
  expression (code.Call' line name shape arguments) = Call line name (expressions arguments)
  expression (code.Name line name) = Name line name
  expression (code.Number line type value) = Number line type value
  expression (code.Text line bytes) = Text line bytes

  pub expressions : {m : _} → code.Row_of-Expression m → Expressions
  expressions code.end_of-Expression = End
  expressions (code.more_of-Expression e rest) = More (expression e) (expressions rest)

-- a list of the code's expressions
abbrev pub listed : List code.Expression → Expressions
listed [] = End
listed (e ∷ es) = More (expression e) (listed es)

-- ---- declarations

abbrev pub dimensions : List (Option code.Expression) → syntax.Dimensions
dimensions all = map (option_map expression) all

abbrev mutual
  pub initialiser : initial.Initialiser → syntax.Initialiser
  initialiser (initial.Value e) = syntax.Value (expression e)
  initialiser (initial.Text line bytes) = syntax.String line bytes
  initialiser (initial.List' line shape parts) = syntax.Braces line (initialisers parts)

  pub initialisers : {m : _} → initial.Row_of-Initialiser m → syntax.Initialisers
  initialisers initial.end_of-Initialiser = syntax.NoParts
  initialisers (initial.more_of-Initialiser i rest) = syntax.MoreParts (initialiser i) (initialisers rest)

abbrev pub listed_parts : List initial.Initialiser → syntax.Initialisers
listed_parts [] = syntax.NoParts
listed_parts (i ∷ is) = syntax.MoreParts (initialiser i) (listed_parts is)

abbrev pub declarator : declarators.Declarator → syntax.Declarator
declarator d = record {
  line = d.line;
  stars = stars d.stars.items;
  name = d.name;
  dimensions = dimensions d.dimensions.items;
  initialiser = option_map initialiser d.initialiser;
}

abbrev pub declaration : declared.Declaration → syntax.Declaration
declaration d = record { line = d.line; specifiers = d.specifiers.items; declarators = map declarator d.declarators.items }

-- ---- statements

-- tokens in a row
abbrev pub in_row : List Lexeme → Lexemes
in_row [] = tokens.End
in_row (t ∷ ts) = tokens.More t (in_row ts)

abbrev pub mark : marks.Mark → syntax.Mark
mark m = record { line = m.line; words = in_row (lexemes m.words.items) }

abbrev pub for_start : ForStart → syntax.ForStart
for_start (starts.Declaration d) = syntax.DeclareFirst (declaration d)
for_start (starts.Expression value) = syntax.EvaluateFirst (option_map expression value)

abbrev mutual
  pub statement : stated.Statement → syntax.Statement
  statement (stated.Block' line shape entries) = syntax.Block line (rows entries)
  statement (stated.Expression line value) = syntax.Evaluate line (option_map expression value)
  statement (stated.If' line condition p first second) = branches line (expression condition) (statement first) second
  statement (stated.While' line condition p body) = syntax.While line (expression condition) (statement body)
  statement (stated.Do' line p body condition) = syntax.Do line (statement body) (expression condition)
  statement (stated.For' line start condition step p body) = syntax.For line (for_start start) (option_map expression condition) (option_map expression step) (statement body)
  statement (stated.Break line) = syntax.Break line
  statement (stated.Continue line) = syntax.Continue line
  statement (stated.Return line value) = syntax.Return line (option_map expression value)

  -- an `if`, with or without `else`
  pub branches : ℕ → Expression → syntax.Statement → stated.Held-Statement-If-3 → syntax.Statement
  branches line condition first stated.None' = syntax.If line condition first
  branches line condition first (stated.Some' p second) = syntax.IfElse line condition first (statement second)

  pub entry : entered.Entry → syntax.Entry
  entry (entered.Declaration d) = syntax.Declared (declaration d)
  entry (entered.Directive m) = syntax.Marked (mark m)
  entry (entered.Statement s) = syntax.Stated (statement s)

  pub rows : {m : _} → stated.Row_of-Entry m → syntax.Entries
  rows stated.end_of-Entry = syntax.NoEntries
  rows (stated.more_of-Entry e rest) = syntax.MoreEntries (entry e) (rows rest)

-- ---- items

abbrev pub parameter : parametric.Parameter → syntax.Parameter
parameter p = record { line = p.line; specifiers = p.specifiers.items; stars = stars p.stars.items; name = p.name; dimensions = dimensions p.dimensions.items }

abbrev pub parameters : Parameters → syntax.Parameters
parameters lists.Empty = syntax.Empty
parameters lists.Void = syntax.VoidAlone
parameters (lists.List all) = syntax.Listed (map parameter all.items)

abbrev pub listed_entries : List entered.Entry → syntax.Entries
listed_entries [] = syntax.NoEntries
listed_entries (e ∷ es) = syntax.MoreEntries (entry e) (listed_entries es)

abbrev pub body : blocks.Block → syntax.Body
body b = record { line = (blocks.out-Block b).line; entries = listed_entries (blocks.out-Block b).entries.items }

abbrev pub item : Item → syntax.Item
item (items.Function directive line end specifiers all name params block) = syntax.Define (record {
  directive = option_map mark directive;
  line = line;
  end = end;
  specifiers = specifiers.items;
  stars = stars all.items;
  name = name;
  parameters = parameters params;
  body = option_map body block;
})
item (items.Declaration d) = syntax.Declare (declaration d)

-- a program
abbrev pub tree : whole.Tree → syntax.Tree
tree t = map item t.items.items

-- ---- directives that were read

abbrev pub argument : Argument → syntax.Argument
argument (arguments.Plain name all) = syntax.Plain name (map expression all.items)
argument (arguments.Strided name rows_are width stride) = syntax.Strided name (expression rows_are) (expression width) (expression stride)

abbrev pub clause : Clause → syntax.Clause
clause (clauses.Arguments direction all) = syntax.Arguments direction (map argument all.items)
clause clauses.HighPriority = syntax.HighPriority

abbrev pub directive : Directive → syntax.Directive
directive (directives.Start line) = syntax.Start line
directive (directives.Finish line) = syntax.Finish line
directive (directives.Barrier line) = syntax.Barrier line
directive (directives.Wait line addresses) = syntax.Wait line (map expression addresses.items)
directive (directives.Task line all) = syntax.Task line (map clause all.items)

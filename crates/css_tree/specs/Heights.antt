-- The height of a tree: one level for an item, a block, a statement, a declaration and a node of an expression on the way
-- down. Parentheses, directives, parameters, a called name, types and an initialiser's braces add none. A block that is a
-- statement is one level, a global's item and its declaration are two.
use Rattle.std.specs.Prelude.{ℕ, ◌+◌, max, List, [], ◌∷◌, Option, Some, None}
use Rattle.css_tree.specs.Syntax.{Expression, Comma, Assign, Conditional, Binary, Cast, PreIncrement, PreDecrement, Unary, SizeofExpression, SizeofType, Index, PostIncrement, PostDecrement, Call, Name, Number, Text, Expressions, End, More}
use Rattle.css_tree.specs.Syntax.{Dimensions, Initialiser, Value, String, Braces, Initialisers, NoParts, MoreParts, Declarator, Declaration, ForStart, DeclareFirst, EvaluateFirst}
use Rattle.css_tree.specs.Syntax.{Statement, Block, Evaluate, If, IfElse, While, Do, For, Break, Continue, Return, Entry, Declared, Marked, Stated, Entries, NoEntries, MoreEntries}
use Rattle.css_tree.specs.Syntax.{Parameter, Parameters, Empty, VoidAlone, Listed, Body, Item, Define, Declare, Tree}

-- ---- expressions

abbrev mutual
  pub height : Expression → ℕ
  height (Comma line a b) = 1 + max (height a) (height b)
  height (Assign line a op b) = 1 + max (height a) (height b)
  height (Conditional line a b c) = 1 + max (height a) (max (height b) (height c))
  height (Binary line a op b) = 1 + max (height a) (height b)
  height (Cast line type a) = 1 + height a
  height (PreIncrement line a) = 1 + height a
  height (PreDecrement line a) = 1 + height a
  height (Unary line op a) = 1 + height a
  height (SizeofExpression line a) = 1 + height a
  height (SizeofType line type) = 1
  height (Index line a b) = 1 + max (height a) (height b)
  height (PostIncrement line a) = 1 + height a
  height (PostDecrement line a) = 1 + height a
  height (Call line name all) = 1 + height_of_arguments all
  height (Name line name) = 1
  height (Number line type value) = 1
  height (Text line bytes) = 1

  pub height_of_arguments : Expressions → ℕ
  height_of_arguments End = 0
  height_of_arguments (More e others) = max (height e) (height_of_arguments others)

abbrev pub height_of_optional : Option Expression → ℕ
height_of_optional None = 0
height_of_optional (Some e) = height e

-- ---- declarations

abbrev pub height_of_dimensions : Dimensions → ℕ
height_of_dimensions [] = 0
height_of_dimensions (size ∷ sizes) = max (height_of_optional size) (height_of_dimensions sizes)

abbrev mutual
  pub height_of_initialiser : Initialiser → ℕ
  height_of_initialiser (Value e) = height e
  height_of_initialiser (String line bytes) = 0
  height_of_initialiser (Braces line parts) = height_of_parts parts

  pub height_of_parts : Initialisers → ℕ
  height_of_parts NoParts = 0
  height_of_parts (MoreParts first others) = max (height_of_initialiser first) (height_of_parts others)

abbrev pub height_of_initial : Option Initialiser → ℕ
height_of_initial None = 0
height_of_initial (Some initialiser) = height_of_initialiser initialiser

abbrev pub height_of_declarator : Declarator → ℕ
height_of_declarator d = max (height_of_dimensions d.dimensions) (height_of_initial d.initialiser)

abbrev pub height_of_declarators : List Declarator → ℕ
height_of_declarators [] = 0
height_of_declarators (d ∷ ds) = max (height_of_declarator d) (height_of_declarators ds)

abbrev pub height_of_declaration : Declaration → ℕ
height_of_declaration d = 1 + height_of_declarators d.declarators

-- ---- statements

abbrev pub height_of_start : ForStart → ℕ
height_of_start (DeclareFirst d) = height_of_declaration d
height_of_start (EvaluateFirst value) = height_of_optional value

abbrev mutual
  pub height_of_statement : Statement → ℕ
  height_of_statement (Block line entries) = 1 + height_of_entries entries
  height_of_statement (Evaluate line value) = 1 + height_of_optional value
  height_of_statement (If line e s) = 1 + max (height e) (height_of_statement s)
  height_of_statement (IfElse line e s other) = 1 + max (height e) (max (height_of_statement s) (height_of_statement other))
  height_of_statement (While line e s) = 1 + max (height e) (height_of_statement s)
  height_of_statement (Do line s e) = 1 + max (height_of_statement s) (height e)
  height_of_statement (For line start condition step s) =
      1 + max (height_of_start start) (max (height_of_optional condition) (max (height_of_optional step) (height_of_statement s)))
  height_of_statement (Break line) = 1
  height_of_statement (Continue line) = 1
  height_of_statement (Return line value) = 1 + height_of_optional value

  pub height_of_entry : Entry → ℕ
  height_of_entry (Declared d) = height_of_declaration d
  height_of_entry (Marked m) = 0
  height_of_entry (Stated s) = height_of_statement s

  pub height_of_entries : Entries → ℕ
  height_of_entries NoEntries = 0
  height_of_entries (MoreEntries first others) = max (height_of_entry first) (height_of_entries others)

-- ---- items

abbrev pub height_of_parameters : List Parameter → ℕ
height_of_parameters [] = 0
height_of_parameters (p ∷ ps) = max (height_of_dimensions p.dimensions) (height_of_parameters ps)

abbrev pub height_of_list : Parameters → ℕ
height_of_list Empty = 0
height_of_list VoidAlone = 0
height_of_list (Listed all) = height_of_parameters all

-- a function's block, or none
abbrev pub height_of_body : Option Body → ℕ
height_of_body None = 0
height_of_body (Some body) = 1 + height_of_entries body.entries

abbrev pub height_of_item : Item → ℕ
height_of_item (Define f) = 1 + max (height_of_list f.parameters) (height_of_body f.body)
height_of_item (Declare d) = 1 + height_of_declaration d

abbrev pub height_of_tree : Tree → ℕ
height_of_tree [] = 0
height_of_tree (i ∷ is) = max (height_of_item i) (height_of_tree is)

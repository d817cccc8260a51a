-- The abstract syntax: trees as plain data. Each node has the line of its first token.
use Rattle.std.specs.Prelude.{ℕ, List, Option}
use Rattle.css_base.specs.declared.int_type.IntType.{IntType}
use Rattle.css_base.specs.declared.direction.Direction.{Direction}
use Rattle.css_base.specs.Tokens.{Lexemes}
use Rattle.css_tree.specs.declared.operators.UnaryOperator.{UnaryOperator}
use Rattle.css_tree.specs.declared.operators.BinaryOperator.{BinaryOperator}
use Rattle.css_tree.specs.declared.operators.AssignOperator.{AssignOperator}
use Rattle.css_tree.specs.declared.words.Specifier.{Specifier}
use Rattle.css_tree.specs.declared.words.Qualifier.{Qualifier}

-- ---- words

-- stars, each with the words behind it
abbrev pub Stars : Type 0
Stars = List (List Qualifier)

pub record TypeName : Type 0 where
  pub specifiers : List Specifier
  pub stars : Stars

-- ---- expressions

mutual
  pub data Expression : Type 0 where
    Comma : (line : ℕ) (left right : Expression) → Expression
    Assign : (line : ℕ) (place : Expression) (operator : AssignOperator) (value : Expression) → Expression
    Conditional : (line : ℕ) (condition first second : Expression) → Expression
    Binary : (line : ℕ) (left : Expression) (operator : BinaryOperator) (right : Expression) → Expression
    Cast : (line : ℕ) (to : TypeName) (operand : Expression) → Expression
    PreIncrement : (line : ℕ) (operand : Expression) → Expression
    PreDecrement : (line : ℕ) (operand : Expression) → Expression
    Unary : (line : ℕ) (operator : UnaryOperator) (operand : Expression) → Expression
    SizeofExpression : (line : ℕ) (operand : Expression) → Expression
    SizeofType : (line : ℕ) (type : TypeName) → Expression
    Index : (line : ℕ) (array index : Expression) → Expression
    PostIncrement : (line : ℕ) (operand : Expression) → Expression
    PostDecrement : (line : ℕ) (operand : Expression) → Expression
    Call : (line : ℕ) (name : List ℕ) (arguments : Expressions) → Expression
    Name : (line : ℕ) (name : List ℕ) → Expression
    Number : (line : ℕ) (type : IntType) (value : ℕ) → Expression
    Text : (line : ℕ) (bytes : List ℕ) → Expression

  pub data Expressions : Type 0 where
    End : Expressions
    More : (first : Expression) (others : Expressions) → Expressions

-- ---- declarations

-- the sizes between a declared name's brackets, where they aren't left out
abbrev pub Dimensions : Type 0
Dimensions = List (Option Expression)

mutual
  pub data Initialiser : Type 0 where
    Value : (value : Expression) → Initialiser
    String : (line : ℕ) (bytes : List ℕ) → Initialiser
    Braces : (line : ℕ) (parts : Initialisers) → Initialiser

  pub data Initialisers : Type 0 where
    NoParts : Initialisers
    MoreParts : (first : Initialiser) (others : Initialisers) → Initialisers

pub record Declarator : Type 0 where
  pub line : ℕ
  pub stars : Stars
  pub name : List ℕ
  pub dimensions : Dimensions
  pub initialiser : Option Initialiser

pub record Declaration : Type 0 where
  pub line : ℕ
  pub specifiers : List Specifier
  pub declarators : List Declarator

-- ---- statements

-- a directive that isn't read yet: its line, and the words after `#pragma css`
pub record Mark : Type 0 where
  pub line : ℕ
  pub words : Lexemes

-- what stands first in the head of a `for`
pub data ForStart : Type 0 where
  DeclareFirst : (declaration : Declaration) → ForStart
  EvaluateFirst : (value : Option Expression) → ForStart

mutual
  pub data Statement : Type 0 where
    Block : (line : ℕ) (entries : Entries) → Statement
    Evaluate : (line : ℕ) (value : Option Expression) → Statement
    If : (line : ℕ) (condition : Expression) (first : Statement) → Statement
    IfElse : (line : ℕ) (condition : Expression) (first second : Statement) → Statement
    While : (line : ℕ) (condition : Expression) (body : Statement) → Statement
    Do : (line : ℕ) (body : Statement) (condition : Expression) → Statement
    For : (line : ℕ) (start : ForStart) (condition step : Option Expression) (body : Statement) → Statement
    Break : (line : ℕ) → Statement
    Continue : (line : ℕ) → Statement
    Return : (line : ℕ) (value : Option Expression) → Statement

  -- what stands in a block
  pub data Entry : Type 0 where
    Declared : (declaration : Declaration) → Entry
    Marked : (mark : Mark) → Entry
    Stated : (statement : Statement) → Entry

  pub data Entries : Type 0 where
    NoEntries : Entries
    MoreEntries : (first : Entry) (others : Entries) → Entries

-- ---- items

pub record Parameter : Type 0 where
  pub line : ℕ
  pub specifiers : List Specifier
  pub stars : Stars
  pub name : Option (List ℕ)
  pub dimensions : Dimensions

pub data Parameters : Type 0 where
  Empty : Parameters
  VoidAlone : Parameters
  Listed : (all : List Parameter) → Parameters

-- a function's body: a block
pub record Body : Type 0 where
  pub line : ℕ
  pub entries : Entries

-- a function, with the lines of its first word and of its last token
pub record Function : Type 0 where
  pub directive : Option Mark
  pub line : ℕ
  pub end : ℕ
  pub specifiers : List Specifier
  pub stars : Stars
  pub name : List ℕ
  pub parameters : Parameters
  pub body : Option Body

pub data Item : Type 0 where
  Define : (function : Function) → Item
  Declare : (declaration : Declaration) → Item

-- a program
abbrev pub Tree : Type 0
Tree = List Item

-- ---- directives that were read

pub data Argument : Type 0 where
  Plain : (name : List ℕ) (dimensions : List Expression) → Argument
  Strided : (name : List ℕ) (rows width stride : Expression) → Argument

pub data Clause : Type 0 where
  Arguments : (direction : Direction) (arguments : List Argument) → Clause
  HighPriority : Clause

pub data Directive : Type 0 where
  Start : (line : ℕ) → Directive
  Finish : (line : ℕ) → Directive
  Barrier : (line : ℕ) → Directive
  Wait : (line : ℕ) (addresses : List Expression) → Directive
  Task : (line : ℕ) (clauses : List Clause) → Directive

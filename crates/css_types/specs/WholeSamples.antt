-- Worked trees for what the whole language has: globals, strings, formats, prototypes, tasks; and a table of refusals. Memory is 16 MiB.
use Rattle.std.specs.Prelude.{ℕ, pos, false, List, [], ◌∷◌, ◌++◌, codes, Option, Some, None}
use Rattle.css_base.specs.declared.direction.Direction.TheVariants as directions
use Rattle.css_base.specs.declared.int_type.IntType.TheVariants.{UChar, Int, UInt}
use Rattle.css_base.specs.declared.static_fault.StaticName.{StaticName}
use Rattle.css_base.specs.declared.static_fault.StaticName.TheVariants.{NoMain, Redeclared, Undeclared, TypeMismatch, NotAnObject, BadFormat, TooBig}
use Rattle.css_base.specs.Tokens as tokens
use Rattle.css_tree.specs.declared.words.Specifier.{Specifier}
use Rattle.css_tree.specs.declared.words.Specifier.TheVariants as words
use Rattle.css_tree.specs.Syntax as syntax
use Rattle.css_core.specs.Core as core
use Rattle.css_types.specs.Judged.{Judged}
use Rattle.css_types.specs.Programs.{program_of}
use Rattle.css_types.specs.Samples.{number, name, at, evaluate, give, in_row, main_of, moved, program_with}

-- ---- words for trees

abbrev pub arguments : List syntax.Expression → syntax.Expressions
arguments [] = syntax.End
arguments (e ∷ es) = syntax.More e (arguments es)

abbrev pub call : List ℕ → List syntax.Expression → syntax.Expression
call f es = syntax.Call 0 f (arguments es)

abbrev pub text : List ℕ → syntax.Expression
text bytes = syntax.Text 0 bytes

abbrev pub star : syntax.Stars
star = [] ∷ []

abbrev pub parts : List syntax.Initialiser → syntax.Initialisers
parts [] = syntax.NoParts
parts (i ∷ is) = syntax.MoreParts i (parts is)

abbrev pub braces : List syntax.Initialiser → syntax.Initialiser
braces is = syntax.Braces 0 (parts is)

abbrev pub whole : ℕ → syntax.Initialiser
whole v = syntax.Value (number v)

-- one declared name
abbrev pub declaration : (here : ℕ) → Specifier → syntax.Stars → List ℕ → syntax.Dimensions → Option syntax.Initialiser → syntax.Declaration
declaration here word stars text dimensions initialiser = record {
  line = here;
  specifiers = word ∷ [];
  declarators = record { line = here; stars = stars; name = text; dimensions = dimensions; initialiser = initialiser } ∷ [];
}

abbrev pub parameter : Specifier → syntax.Stars → List ℕ → syntax.Dimensions → syntax.Parameter
parameter word stars text dimensions = record { line = 0; specifiers = word ∷ []; stars = stars; name = Some text; dimensions = dimensions }

abbrev pub body_at : (here : ℕ) → Option (List syntax.Entry) → Option syntax.Body
body_at here None = None
body_at here (Some es) = Some (record { line = here; entries = in_row es })

abbrev pub function : (here : ℕ) → Option syntax.Mark → Specifier → List ℕ → List syntax.Parameter → Option (List syntax.Entry) → syntax.Item
function here directive word text parameters entries = syntax.Define (record {
  directive = directive;
  line = here;
  end = here;
  specifiers = word ∷ [];
  stars = [];
  name = text;
  parameters = syntax.Listed parameters;
  body = body_at here entries;
})

abbrev pub local : (here : ℕ) → Specifier → syntax.Stars → List ℕ → syntax.Dimensions → Option syntax.Initialiser → syntax.Entry
local here word stars text dimensions initialiser = syntax.Declared (declaration here word stars text dimensions initialiser)

-- ---- globals

-- char c = 1; int a[][2] = {{1}, {2, 3}}; int *p = 0; int main(void) { return a[1][0]; }
abbrev pub with_globals : syntax.Tree
with_globals =
    syntax.Declare (declaration 1 words.Char [] (codes "c") [] (Some (whole 1)))
    ∷ syntax.Declare (declaration 1 words.Int [] (codes "a") (None ∷ Some (number 2) ∷ []) (Some (braces (braces (whole 1 ∷ []) ∷ braces (whole 2 ∷ whole 3 ∷ []) ∷ []))))
    ∷ syntax.Declare (declaration 1 words.Int star (codes "p") [] (Some (whole 0)))
    ∷ main_of (give 2 (at (at (name (codes "a")) 1) 0) ∷ [])

abbrev pub datum : ℕ → List ℕ → core.Datum
datum address bytes = record { address = address; bytes = bytes }

abbrev pub core_of_globals : core.Program
core_of_globals = record (program_with 0 (
    core.Then (core.Return 2 (core.Convert Int (core.Value Int (moved (moved (core.Number (pos 4104)) 1 8) 0 4)))) core.Nothing)) {
      globals_end = 4124;
      datums = datum 4096 (1 ∷ []) ∷ datum 4104 (0 ∷ 0 ∷ 0 ∷ 1 ∷ []) ∷ datum 4112 (0 ∷ 0 ∷ 0 ∷ 2 ∷ []) ∷ datum 4116 (0 ∷ 0 ∷ 0 ∷ 3 ∷ []) ∷ datum 4120 (0 ∷ 0 ∷ 0 ∷ 0 ∷ []) ∷ [];
    }

-- ---- strings and formats

-- char s[4] = "ab"; return printf("%c%%", s[0]);
abbrev pub with_strings : syntax.Tree
with_strings = main_of (
    local 2 words.Char [] (codes "s") (Some (number 4) ∷ []) (Some (syntax.String 2 (codes "ab")))
    ∷ give 3 (call (codes "printf") (text (codes "%c%%") ∷ at (name (codes "s")) 0 ∷ [])) ∷ [])

abbrev pub byte_stored : (offset byte : ℕ) → core.Statement
byte_stored offset byte = core.Eval 2 (core.Assign UChar (core.Local offset) (core.Convert UChar (core.Number (pos byte))))

abbrev pub core_of_strings : core.Program
core_of_strings = program_with 8 (
    core.Then (byte_stored 0 97) (core.Then (byte_stored 1 98) (core.Then (byte_stored 2 0) (core.Then (byte_stored 3 0)
    (core.Then (core.Return 3 (core.Convert Int (core.Print (core.Shown core.Character ∷ core.Literal 37 ∷ [])
    (core.More (core.Convert Int (core.Value UChar (moved (core.Local 0) 0 1))) core.Empty)))) core.Nothing)))))

-- ---- prototypes and tasks

-- every mark is `task input(p[n])`
abbrev pub read : syntax.Mark → syntax.Directive
read m = syntax.Task m.line (syntax.Arguments directions.In (syntax.Plain (codes "p") (name (codes "n") ∷ []) ∷ []) ∷ [])

-- #pragma css task input(p[n])
-- void t(int p[][3], int n);
-- int main(void) { int a[2][3]; t(a, 2); return 0; }
-- void t(int p[][3], int n) { }
abbrev pub parameters : List syntax.Parameter
parameters = parameter words.Int [] (codes "p") (None ∷ Some (number 3) ∷ []) ∷ parameter words.Int [] (codes "n") [] ∷ []

abbrev pub with_task : syntax.Tree
with_task =
    function 2 (Some (record { line = 1; words = tokens.End })) words.Void (codes "t") parameters None
    ∷ (main_of (local 3 words.Int [] (codes "a") (Some (number 2) ∷ Some (number 3) ∷ []) None
    ∷ evaluate 3 (call (codes "t") (name (codes "a") ∷ number 2 ∷ [])) ∷ give 3 (number 0) ∷ [])
    ++ function 4 None words.Void (codes "t") parameters (Some []) ∷ [])

abbrev pub core_of_task : core.Program
core_of_task = record {
  globals_end = 4096;
  datums = [];
  functions =
      record {
        line = 1;
        end = 9;
        frame = 24;
        parameters = [];
        result = Int;
        task = None;
        body =
            core.Then (core.Eval 3 (core.Call 1 (core.More (core.Convert UInt (core.Local 0)) (core.More (core.Convert Int (core.Number (pos 2))) core.Empty))))
            (core.Then (core.Return 3 (core.Convert Int (core.Number (pos 0)))) core.Nothing);
      }
      ∷ record {
        line = 4;
        end = 4;
        frame = 16;
        parameters = UInt ∷ Int ∷ [];
        result = Int;
        task =
            Some (record { high = false; parts = core.Window directions.In 4 false (core.More (core.Given 1) core.Empty) ∷ core.Scalar ∷ [] });
        body = core.Nothing;
      }
      ∷ [];
  main = 0;
}

abbrev pub with_marks : syntax.Tree → Judged core.Program
with_marks tree = program_of read 16777216 tree

-- ---- refusals

pub record Refusal : Type 0 where
  pub tree : syntax.Tree
  pub rule : StaticName
  pub line : ℕ

abbrev pub row : syntax.Tree → StaticName → ℕ → Refusal
row tree rule line = record { tree = tree; rule = rule; line = line }

-- a main with one entry in line 2, and one of these initialisers of `int a[2]`
abbrev pub main_with : syntax.Entry → syntax.Tree
main_with entry = main_of (entry ∷ [])

abbrev pub begun_with : List syntax.Initialiser → syntax.Tree
begun_with is = main_with (local 2 words.Int [] (codes "a") (Some (number 2) ∷ []) (Some (braces is)))

abbrev pub to_void : syntax.Expression → syntax.Expression
to_void e = syntax.Cast 0 (record { specifiers = words.Void ∷ []; stars = star }) e

abbrev pub to_int : syntax.Expression → syntax.Expression
to_int e = syntax.Cast 0 (record { specifiers = words.Int ∷ []; stars = [] }) e

abbrev pub refusals : List Refusal
refusals =
    -- no main, also where it is a prototype alone
    row [] NoMain 1
    ∷ row (function 1 None words.Int (codes "main") [] None ∷ []) NoMain 1
    -- int putchar;   int x = puts;
    ∷ row (main_with (local 2 words.Int [] (codes "putchar") [] None)) Redeclared 2
    ∷ row (main_with (local 2 words.Int [] (codes "x") [] (Some (syntax.Value (name (codes "puts")))))) TypeMismatch 2
    -- printf("%d");   printf("%d", 1, 2);   printf("%q");   printf(1);   puts("a", y);
    ∷ row (main_with (evaluate 2 (call (codes "printf") (text (codes "%d") ∷ [])))) BadFormat 2
    ∷ row (main_with (evaluate 2 (call (codes "printf") (text (codes "%d") ∷ number 1 ∷ number 2 ∷ [])))) BadFormat 2
    ∷ row (main_with (evaluate 2 (call (codes "printf") (text (codes "%q") ∷ [])))) BadFormat 2
    ∷ row (main_with (evaluate 2 (call (codes "printf") (number 1 ∷ [])))) TypeMismatch 2
    ∷ row (main_with (evaluate 2 (call (codes "puts") (text (codes "a") ∷ name (codes "y") ∷ [])))) Undeclared 2
    -- int a[536870912];   char a[1048577];   and outside all functions char a[15728640];
    ∷ row (main_with (local 2 words.Int [] (codes "a") (Some (number 536870912) ∷ []) None)) TooBig 2
    ∷ row (main_with (local 2 words.Char [] (codes "a") (Some (number 1048577) ∷ []) None)) TooBig 1
    ∷ row (syntax.Declare (declaration 1 words.Char [] (codes "a") (Some (number 15728640) ∷ []) None) ∷ main_of []) TooBig 1
    -- int a[(int)(void *)1];   void v;   int a[];
    ∷ row (main_with (local 2 words.Int [] (codes "a") (Some (to_int (to_void (number 1))) ∷ []) None)) TypeMismatch 2
    ∷ row (main_with (local 2 words.Void [] (codes "v") [] None)) TypeMismatch 2
    ∷ row (main_with (local 2 words.Int [] (codes "a") (None ∷ []) None)) TypeMismatch 2
    -- int a[2] = {1, 2, 3};   .. {1, 2, y};   .. {{y}};   .. {{1}};   char a[2] = "abc";
    ∷ row (begun_with (whole 1 ∷ whole 2 ∷ whole 3 ∷ [])) TypeMismatch 2
    ∷ row (begun_with (whole 1 ∷ whole 2 ∷ syntax.Value (name (codes "y")) ∷ [])) Undeclared 2
    ∷ row (begun_with (braces (syntax.Value (name (codes "y")) ∷ []) ∷ [])) Undeclared 2
    ∷ row (begun_with (braces (whole 1 ∷ []) ∷ [])) TypeMismatch 2
    ∷ row (main_with (local 2 words.Char [] (codes "a") (Some (number 2) ∷ []) (Some (syntax.String 2 (codes "abc"))))) TypeMismatch 2
    -- int f(int x); int main(void) { f(1); }   .. f(y);   int f(int x); void f(int x);
    ∷ row (function 1 None words.Int (codes "f") (parameter words.Int [] (codes "x") [] ∷ []) None ∷ main_with (evaluate 2 (call (codes "f") (number 1 ∷ [])))) Undeclared 2
    ∷ row (function 1 None words.Int (codes "f") (parameter words.Int [] (codes "x") [] ∷ []) None ∷ main_with (evaluate 2 (call (codes "f") (number 1 ∷ number 2 ∷ [])))) Undeclared 2
    ∷ row (function 1 None words.Int (codes "f") [] None ∷ function 3 None words.Void (codes "f") [] None ∷ main_of []) Redeclared 3
    -- break;   return;   1++;
    ∷ row (main_with (syntax.Stated (syntax.Break 2))) TypeMismatch 2
    ∷ row (main_with (syntax.Stated (syntax.Return 2 None))) TypeMismatch 2
    ∷ row (main_with (evaluate 2 (syntax.PostIncrement 0 (number 1)))) NotAnObject 2
    ∷ []

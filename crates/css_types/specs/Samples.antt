-- Worked trees with their texts, and what they come to by hand. `here` is the line of each declaration and statement.
use Rattle.std.specs.Prelude.{ℕ, pos, List, [], ◌∷◌, codes, Option, Some, None}
use Rattle.css_base.specs.declared.int_type.IntType.TheVariants.{UChar, Int, UInt}
use Rattle.css_tree.specs.declared.words.Specifier.{Specifier}
use Rattle.css_tree.specs.declared.words.Specifier.TheVariants as words
use Rattle.css_tree.specs.declared.operators.UnaryOperator.TheVariants as unaries
use Rattle.css_tree.specs.declared.operators.BinaryOperator.TheVariants as binaries
use Rattle.css_tree.specs.declared.operators.AssignOperator.TheVariants as assignments
use Rattle.css_tree.specs.Syntax as syntax
use Rattle.css_num.specs.declared.operators.BinOp.TheVariants as binary
use Rattle.css_core.specs.Core as core
use Rattle.css_types.specs.Judged.{Judged}
use Rattle.css_types.specs.Programs.{program_of}

abbrev pub number : ℕ → syntax.Expression
number v = syntax.Number 0 Int v

abbrev pub name : List ℕ → syntax.Expression
name text = syntax.Name 0 text

abbrev pub set_to : syntax.Expression → syntax.Expression → syntax.Expression
set_to place e = syntax.Assign 0 place assignments.Assign e

abbrev pub at : syntax.Expression → ℕ → syntax.Expression
at array i = syntax.Index 0 array (number i)

abbrev pub declare : (here : ℕ) → Specifier → List ℕ → syntax.Dimensions → Option syntax.Initialiser → syntax.Entry
declare here word text dimensions initialiser = syntax.Declared (record {
  line = here;
  specifiers = word ∷ [];
  declarators = record { line = here; stars = []; name = text; dimensions = dimensions; initialiser = initialiser } ∷ [];
})

abbrev pub evaluate : (here : ℕ) → syntax.Expression → syntax.Entry
evaluate here e = syntax.Stated (syntax.Evaluate here (Some e))

abbrev pub give : (here : ℕ) → syntax.Expression → syntax.Entry
give here e = syntax.Stated (syntax.Return here (Some e))

abbrev pub in_row : List syntax.Entry → syntax.Entries
in_row [] = syntax.NoEntries
in_row (e ∷ es) = syntax.MoreEntries e (in_row es)

-- `int main(void) { .. }`, from line 1 to line 9
abbrev pub main_of : List syntax.Entry → syntax.Tree
main_of entries = syntax.Define (record {
  directive = None;
  line = 1;
  end = 9;
  specifiers = words.Int ∷ [];
  stars = [];
  name = codes "main";
  parameters = syntax.VoidAlone;
  body = Some (record { line = 1; entries = in_row entries });
}) ∷ []

abbrev pub program_with : (frame : ℕ) → core.Statements → core.Program
program_with frame body = record {
  globals_end = 4096;
  datums = [];
  functions = record { line = 1; end = 9; frame = frame; parameters = []; result = Int; task = None; body = body } ∷ [];
  main = 0;
}

-- int x = 1; { char x; x = 2; } return x;
abbrev pub hides : syntax.Tree
hides = main_of (
    declare 2 words.Int (codes "x") [] (Some (syntax.Value (number 1)))
    ∷ syntax.Stated (syntax.Block 3 (in_row (declare 3 words.Char (codes "x") [] None ∷ evaluate 3 (set_to (name (codes "x")) (number 2)) ∷ [])))
    ∷ give 4 (name (codes "x")) ∷ [])

abbrev pub core_of_hides : core.Program
core_of_hides = program_with 16 (
    core.Then (core.Eval 2 (core.Assign Int (core.Local 0) (core.Convert Int (core.Number (pos 1)))))
    (core.Then (core.Block (core.Then (core.Eval 3 (core.Assign UChar (core.Local 8) (core.Convert UChar (core.Number (pos 2))))) core.Nothing))
    (core.Then (core.Return 4 (core.Convert Int (core.Value Int (core.Local 0)))) core.Nothing)))

-- int a[1 || 1 / 0][3]; a[0][2] = 5; return 0;
abbrev pub rows : syntax.Tree
rows = main_of (
    declare 2 words.Int (codes "a")
    (Some (syntax.Binary 0 (number 1) binaries.Or (syntax.Binary 0 (number 1) binaries.Divide (number 0))) ∷ Some (number 3) ∷ []) None
    ∷ evaluate 3 (set_to (at (at (name (codes "a")) 0) 2) (number 5)) ∷ give 4 (number 0) ∷ [])

abbrev pub moved : core.Expression → (i size : ℕ) → core.Expression
moved e i size = core.Binary binary.Add UInt e (core.Binary binary.Mul UInt (core.Convert UInt (core.Number (pos i))) (core.Number (pos size)))

abbrev pub core_of_rows : core.Program
core_of_rows = program_with 16 (
    core.Then (core.Eval 3 (core.Assign Int (moved (moved (core.Local 0) 0 12) 2 4) (core.Convert Int (core.Number (pos 5)))))
    (core.Then (core.Return 4 (core.Convert Int (core.Number (pos 0)))) core.Nothing))

-- int a[2] = {7}; return 0;
abbrev pub fills : syntax.Tree
fills = main_of (
    declare 2 words.Int (codes "a") (Some (number 2) ∷ []) (Some (syntax.Braces 2 (syntax.MoreParts (syntax.Value (number 7)) syntax.NoParts)))
    ∷ give 3 (number 0) ∷ [])

abbrev pub core_of_fills : core.Program
core_of_fills = program_with 8 (
    core.Then (core.Eval 2 (core.Assign Int (core.Local 0) (core.Convert Int (core.Number (pos 7)))))
    (core.Then (core.Eval 2 (core.Assign Int (core.Local 4) (core.Convert Int (core.Number (pos 0)))))
    (core.Then (core.Return 3 (core.Convert Int (core.Number (pos 0)))) core.Nothing)))

-- *1 = y; and y = *1;
abbrev pub star_first : syntax.Tree
star_first = main_of (evaluate 2 (set_to (syntax.Unary 0 unaries.Dereference (number 1)) (name (codes "y"))) ∷ [])

abbrev pub name_first : syntax.Tree
name_first = main_of (evaluate 2 (set_to (name (codes "y")) (syntax.Unary 0 unaries.Dereference (number 1))) ∷ [])

-- int x; int x;
abbrev pub twice : syntax.Tree
twice = main_of (declare 2 words.Int (codes "x") [] None ∷ declare 3 words.Int (codes "x") [] None ∷ [])

-- 1 = 2;
abbrev pub no_place : syntax.Tree
no_place = main_of (evaluate 2 (set_to (number 1) (number 2)) ∷ [])

-- int a[1 / 0];
abbrev pub no_dimension : syntax.Tree
no_dimension = main_of (declare 2 words.Int (codes "a") (Some (syntax.Binary 0 (number 1) binaries.Divide (number 0)) ∷ []) None ∷ [])

-- what a tree without marks comes to, in a memory of 16 MiB
abbrev pub plainly : syntax.Tree → Judged core.Program
plainly tree = program_of (λ m. syntax.Start m.line) 16777216 tree

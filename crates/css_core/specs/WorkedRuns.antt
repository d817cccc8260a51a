-- Worked programs under the rules, each with its text, and what they come to by hand.
use Rattle.std.specs.Prelude.{ℕ, ◌+◌, pos, true, false, List, [], ◌∷◌, ◌++◌, length, Option, Some, None, option_map}
use Rattle.css_base.specs.declared.direction.Direction.{Direction}
use Rattle.css_base.specs.declared.direction.Direction.TheVariants.{In, Out, InOut}
use Rattle.css_base.specs.declared.ending.Ending.{Ending}
use Rattle.css_base.specs.declared.ending.Ending.TheVariants as endings
use Rattle.css_base.specs.declared.ending.Stop.TheVariants as stops
use Rattle.css_base.specs.declared.ending.Who.TheVariants as whose
use Rattle.css_base.specs.declared.limits.Limits.{Limits}
use Rattle.css_base.specs.declared.rule.Rule.{Rule}
use Rattle.css_base.specs.declared.int_type.IntType.{IntType}
use Rattle.css_base.specs.declared.int_type.IntType.TheVariants.{Int, UInt}
use Rattle.css_num.specs.declared.operators.UnOp.TheVariants as unary
use Rattle.css_num.specs.declared.operators.BinOp.TheVariants as binary
use Rattle.css_semantics.specs.Dialogue.{World}
use Rattle.css_semantics.specs.Verdict.{OfFinish, OfWait, Image, Verdict, judged_in, verdict}
use Rattle.css_core.specs.Core as core
use Rattle.css_core.specs.Core.{Expression, Number, Local, Value, Call, Input, Print, Expressions, Empty, More, Old, New, Signed, Unsigned, Literal, Shown, Piece, Statement, Eval, Block, If, Loop, Return, Mark, Await, Statements, Nothing, Then, Part, Scalar, Window, Task, Function, Datum, Program}
use Rattle.css_core.specs.Functions.{source}
use Rattle.css_core.specs.Starts.{start_of}
use Rattle.css_core.specs.Elaboration.{Operand, in_type, unary_of, binary_of, assigned, updated, stepped, element}

-- ---- what a row shows

abbrev pub row_limits : Limits
row_limits = record { workers = 1; bundle = 1; local_store = 32768; memory = 2097152; main_units = 1000; task_units = 1000 }

-- the world in which a program is judged that has nothing to read
abbrev pub judged_world : Program → World
judged_world p = judged_in row_limits (start_of row_limits.memory [] p)

abbrev pub run : (input : List ℕ) → Program → (fuel : ℕ) → Option Verdict
run input p fuel = let start = start_of row_limits.memory input p in verdict start.memory (source (judged_in row_limits start) fuel p)

abbrev pub ending_of : Option Verdict → Option Ending
ending_of v = option_map (λ v. v.ending) v

abbrev pub output_of : Option Verdict → Option (List ℕ)
output_of v = option_map (λ v. v.output) v

abbrev pub images_of : Option Verdict → Option (List Image)
images_of v = option_map (λ v. v.images) v

-- main ends with this value
abbrev pub returned : ℕ → Option Ending
returned n = Some (endings.Result (pos n))

-- a rule that main breaks in a line, and one that the first task breaks
abbrev pub main_breaks : Rule → (line : ℕ) → Option Ending
main_breaks rule line = Some (endings.Stopped (stops.Rule rule) line whose.Main)

abbrev pub task_breaks : Rule → (line : ℕ) → Option Ending
task_breaks rule line = Some (endings.Stopped (stops.Rule rule) line (whose.Task 0))

-- ---- words for programs

abbrev pub loaded : IntType → Expression → Operand
loaded t place = record { t = t; e = Value t place }

-- an int constant
abbrev pub int : ℕ → Operand
int n = record { t = Int; e = Number (pos n) }

-- a variable of a function: an int, and a pointer's value
abbrev pub int_at : (offset : ℕ) → Operand
int_at offset = loaded Int (Local offset)

abbrev pub pointer_at : (offset : ℕ) → Expression
pointer_at offset = Value UInt (Local offset)

-- `place = a;`
abbrev pub sets : (line : ℕ) (place : Expression) → Operand → Statement
sets line place a = Eval line (assigned Int place a).e

-- `f(..);`
abbrev pub calls : (line number : ℕ) → Expressions → Statement
calls line number arguments = Eval line (Call number arguments)

-- `printf("%d\n", a);` and `printf("%d %d\n", a, b);`
abbrev pub prints : (line : ℕ) → Operand → Statement
prints line a = Eval line (Print (Shown Signed ∷ Literal 10 ∷ []) (More (in_type Int a) Empty))

abbrev pub prints_both : (line : ℕ) (a b : Operand) → Statement
prints_both line a b = Eval line (Print (Shown Signed ∷ Literal 32 ∷ Shown Signed ∷ Literal 10 ∷ []) (More (in_type Int a) (More (in_type Int b) Empty)))

-- `return n;`
abbrev pub returns : (line : ℕ) → Operand → Statement
returns line a = Return line (in_type Int a)

-- `if (a == n) s`
abbrev pub if_is : (line : ℕ) → Operand → (n : ℕ) → Statement → Statement
if_is line a n s = If line (binary_of binary.Eq a (int n)).e s (Block Nothing)

abbrev pub body_of : List Statement → Statements
body_of [] = Nothing
body_of (s ∷ ss) = Then s (body_of ss)

-- a void task in a line, whose parameters have these types
abbrev pub task_in : (line end frame : ℕ) → List IntType → List Part → List Statement → Function
task_in line end frame parameters parts body = record {
  line = line;
  end = end;
  frame = frame;
  parameters = parameters;
  result = Int;
  task = Some (record { high = false; parts = parts });
  body = body_of body;
}

-- `int main(void) {` in a line
abbrev pub main_in : (line end frame : ℕ) → List Statement → Function
main_in line end frame body = record { line = line; end = end; frame = frame; parameters = []; result = Int; task = None; body = body_of body }

-- one int at a pointer, in a direction
abbrev pub one_int : Direction → Part
one_int direction = Window direction 4 false Empty

-- ---- write after read

-- 1 #pragma css task input(s) output(d)
-- 2 void copy(int *s, int *d) { *d = *s; }
abbrev pub copy : Function
copy = task_in 2 2 16 (UInt ∷ UInt ∷ []) (one_int In ∷ one_int Out ∷ []) (sets 2 (pointer_at 8) (loaded Int (pointer_at 0)) ∷ [])

-- 3 #pragma css task output(d)
-- 4 void set(int *d, int v) { *d = v; }
abbrev pub set : Function
set = task_in 4 4 16 (UInt ∷ Int ∷ []) (one_int Out ∷ Scalar ∷ []) (sets 4 (pointer_at 0) (int_at 8) ∷ [])

-- 5 int main(void) {
-- 6   int a = 1, b = 2;
-- 7   #pragma css start
-- 8   copy(&a, &b);
-- 9   set(&a, 7);
-- 10  #pragma css finish
-- 11  printf("%d %d\n", a, b);
-- 12  return 0;
-- 13 }
-- it writes `7 1`: copy reads what `a` was before set writes it
abbrev pub writes_after_read : Program
writes_after_read = record {
  globals_end = 4096;
  datums = [];
  functions = copy ∷ set ∷ main_in 5 13 16 (sets 6 (Local 0) (int 1)
      ∷ sets 6 (Local 8) (int 2)
      ∷ Mark 7 core.Start
      ∷ calls 8 0 (More (Local 0) (More (Local 8) Empty))
      ∷ calls 9 1 (More (Local 0) (More (in_type Int (int 7)) Empty))
      ∷ Mark 10 core.Finish
      ∷ prints_both 11 (int_at 0) (int_at 8)
      ∷ returns 12 (int 0)
      ∷ []) ∷ [];
  main = 2;
}

-- ---- a pending object

-- 1 #pragma css task inout(p)
-- 2 void inc(int *p) { *p = *p + 1; }
abbrev pub inc : Function
inc = task_in 2 2 8 (UInt ∷ []) (one_int InOut ∷ []) (sets 2 (pointer_at 0) (binary_of binary.Add (loaded Int (pointer_at 0)) (int 1)) ∷ [])

-- 1 #pragma css task input(p)
-- 2 void inc(int *p) { }
abbrev pub only_reads : Function
only_reads = task_in 2 2 8 (UInt ∷ []) (one_int In ∷ []) []

-- 3 int x = 4;
-- 4 int main(void) {
-- 5   #pragma css start
-- 6   inc(&x);
--     what stands in line 7
--     printf("%d\n", x);
--     return 0;
--   }
abbrev pub with_x : Function → (between : List Statement) → (line : ℕ) → Program
with_x task between line = record {
  globals_end = 4100;
  datums = record { address = 4096; bytes = 0 ∷ 0 ∷ 0 ∷ 4 ∷ [] } ∷ [];
  functions = task ∷ main_in 4 (line + 2) 0 (Mark 5 core.Start
      ∷ calls 6 0 (More (Number (pos 4096)) Empty)
      ∷ (between ++ (prints line (loaded Int (Number (pos 4096))) ∷ returns (line + 1) (int 0) ∷ []))) ∷ [];
  main = 1;
}

-- without line 7 main reads what a task may write; with `#pragma css wait on(&x)` it writes 5; where the task only reads it writes 4
abbrev pub never_waits : Program
never_waits = with_x inc [] 7

abbrev pub waits_for_x : Program
waits_for_x = with_x inc (Await 7 (More (Number (pos 4096)) Empty) ∷ []) 8

abbrev pub reads_pending_read : Program
reads_pending_read = with_x only_reads [] 7

-- with `#pragma css wait on(&x + 1 / 0)` in line 7: the division is at fault in a wait
abbrev pub waits_by_zero : Program
waits_by_zero = with_x inc (Await 7 (More (element 4 (Number (pos 4096)) (binary_of binary.Div (int 1) (int 0))) Empty) ∷ []) 8

-- ---- arithmetic

-- 1 int main(void) { printf("%d %u %d %d %d\n", -7 / 2, 3000000000u + 2000000000u, 1 << 33, -1 >> 1, (-2147483647 - 1) / -1); return 0; }
abbrev pub minus : ℕ → Operand
minus n = unary_of unary.Minus (int n)

abbrev pub unsigned : ℕ → Operand
unsigned n = record { t = UInt; e = Number (pos n) }

abbrev pub prints_numbers : Program
prints_numbers = record {
  globals_end = 4096;
  datums = [];
  functions = main_in 1 1 0 (Eval 1 (Print (Shown Signed ∷ Literal 32 ∷ Shown Unsigned ∷ Literal 32 ∷ Shown Signed ∷ Literal 32 ∷ Shown Signed ∷ Literal 32 ∷ Shown Signed ∷ Literal 10 ∷ [])
      (More (binary_of binary.Div (minus 7) (int 2)).e
      (More (binary_of binary.Add (unsigned 3000000000) (unsigned 2000000000)).e
      (More (binary_of binary.Shl (int 1) (int 33)).e
      (More (binary_of binary.Shr (minus 1) (int 1)).e
      (More (binary_of binary.Div (binary_of binary.Sub (minus 2147483647) (int 1)) (minus 1)).e Empty))))))
      ∷ returns 1 (int 0)
      ∷ []) ∷ [];
  main = 0;
}

-- ---- the rules on a task

-- 1 void deep(int n) { int z[1000]; if (n) deep(n - 1); }
abbrev pub deep : Function
deep = record {
  line = 1;
  end = 1;
  frame = 4008;
  parameters = Int ∷ [];
  result = Int;
  task = None;
  body = Then (If 1 (int_at 0).e (calls 1 0 (More (in_type Int (binary_of binary.Sub (int_at 0) (int 1))) Empty)) (Block Nothing)) Nothing;
}

-- 2 #pragma css task input(a[2]) output(b)
-- 3 void t(int *a, int *b, int k) {
-- 4   if (k == 0) *b = a[2];
-- 5   if (k == 1) a[0] = 1;
-- 6   if (k == 2) deep(9);
-- 7   *b = 0;
-- 8 }
abbrev pub misbehaves : Function
misbehaves =
    task_in 3 8 24 (UInt ∷ UInt ∷ Int ∷ []) (Window In 4 false (More (Number (pos 2)) Empty) ∷ one_int Out ∷ Scalar ∷ []) (if_is 4 (int_at 16) 0 (sets 4 (pointer_at 8) (loaded Int (element 4 (pointer_at 0) (int 2))))
    ∷ if_is 5 (int_at 16) 1 (sets 5 (element 4 (pointer_at 0) (int 0)) (int 1))
    ∷ if_is 6 (int_at 16) 2 (calls 6 0 (More (in_type Int (int 9)) Empty))
    ∷ sets 7 (pointer_at 8) (int 0)
    ∷ [])

-- 9 int v[4], w;
-- 10 int main(void) {
-- 11   #pragma css start
-- 12   t(v, &w, getchar() - '0');
-- 13   #pragma css finish
-- 14   return w;
-- 15 }
-- with the input `0` the task loads behind its first window, with `1` it stores into it, with `2` its stack is too deep, and with `3` it
-- does nothing wrong
abbrev pub takes_input : Program
takes_input = record {
  globals_end = 4116;
  datums = [];
  functions = deep ∷ misbehaves ∷ main_in 10 15 0 (Mark 11 core.Start
      ∷ calls 12 1 (More (Number (pos 4096)) (More (Number (pos 4112)) (More (in_type Int (binary_of binary.Sub (record { t = Int; e = Input }) (int 48))) Empty)))
      ∷ Mark 13 core.Finish
      ∷ returns 14 (loaded Int (Number (pos 4112)))
      ∷ []) ∷ [];
  main = 2;
}

-- ---- main stores into what tasks only read

-- 1 #pragma css task input(s) output(d)
-- 2 void copy(int *s, int *d) { *d = *s; }
-- 3 int main(void) {
-- 4   int a = 1, b = 2;
-- 5   #pragma css start
-- 6   copy(&a, &b);
-- 7   a = 7;
-- 8   copy(&a, &b);
-- 9   #pragma css wait on(&a)
-- 10  #pragma css finish
-- 11  printf("%d %d\n", a, b);
-- 12  return 0;
-- 13 }
-- it writes `7 7`; without line 8 `7 1`, and the wait is for no pending object; with `b = 9;` in line 7 main stores into what the task
-- writes
abbrev pub copies_again : Statement
copies_again = calls 8 0 (More (Local 0) (More (Local 8) Empty))

abbrev pub stores_between : (stored : Statement) (again : List Statement) → Program
stores_between stored again = record {
  globals_end = 4096;
  datums = [];
  functions = copy ∷ main_in 3 13 16 (sets 4 (Local 0) (int 1)
      ∷ sets 4 (Local 8) (int 2)
      ∷ Mark 5 core.Start
      ∷ calls 6 0 (More (Local 0) (More (Local 8) Empty))
      ∷ stored
      ∷ (again ++ (Await 9 (More (Local 0) Empty)
      ∷ Mark 10 core.Finish
      ∷ prints_both 11 (int_at 0) (int_at 8)
      ∷ returns 12 (int 0)
      ∷ []))) ∷ [];
  main = 1;
}

abbrev pub stores_into_read : (again : List Statement) → Program
stores_into_read again = stores_between (sets 7 (Local 0) (int 7)) again

abbrev pub stores_into_written : Program
stores_into_written = stores_between (sets 7 (Local 8) (int 9)) (copies_again ∷ [])

-- the images of the wait, and of the finish: `a` and `b` in 8 bytes each
abbrev pub wait_for_a : Image
wait_for_a = record { kind = OfWait; line = 9; address = 2097136; bytes = 0 ∷ 0 ∷ 0 ∷ 7 ∷ [] }

abbrev pub at_finish : (b : ℕ) → Image
at_finish b = record { kind = OfFinish; line = 10; address = 0; bytes = 0 ∷ 0 ∷ 0 ∷ 7 ∷ 0 ∷ 0 ∷ 0 ∷ 0 ∷ 0 ∷ 0 ∷ 0 ∷ b ∷ 0 ∷ 0 ∷ 0 ∷ 0 ∷ [] }

-- ---- strided windows

-- 1 int m[8][8];
-- 2 #pragma css task inout(p{8, 4, 8})
-- 3 void add(int *p, int v) { int i, j; for (i = 0; i < 8; i++) for (j = 0; j < 4; j++) p[i * 8 + j] += v; }
abbrev pub loops_to : (offset end : ℕ) → Statement → List Statement
loops_to offset end s =
    sets 3 (Local offset) (int 0) ∷ Loop 3 true (binary_of binary.Lt (int_at offset) (int end)).e (stepped Old binary.Add Int (Local offset)).e s ∷ []

abbrev pub add_in_rows : (width end : ℕ) → Function
add_in_rows width end =
    let place = element 4 (pointer_at 0) (binary_of binary.Add (binary_of binary.Mul (int_at 16) (int 8)) (int_at 24)) in
    task_in 3 3 32 (UInt ∷ Int ∷ []) (Window InOut 4 true (More (Number (pos 8)) (More (Number (pos width)) (More (Number (pos 8)) Empty))) ∷ Scalar ∷ [])
    (loops_to 16 8 (Block (body_of (loops_to 24 end (Eval 3 (updated New Int binary.Add place (int_at 8)).e)))))

-- the address of `m[i][j]`
abbrev pub entry : (i j : ℕ) → Expression
entry i j = element 4 (element 32 (Number (pos 4096)) (int i)) (int j)

-- 4 int main(void) {
-- 5   #pragma css start
-- 6   add(&m[0][0], 1);
-- 7   add(&m[0][4], 2);
-- 8   #pragma css finish
-- 9   return m[7][3] * 10 + m[7][4];
-- 10 }
-- it returns 12; with `&m[0][2]` in line 7 the windows overlap; with `j < 5` in line 3 the task leaves its window; with `{8, 9, 8}` a row
-- is wider than the stride
abbrev pub adds_in_rows : (width end second : ℕ) → Program
adds_in_rows width end second = record {
  globals_end = 4352;
  datums = [];
  functions = add_in_rows width end ∷ main_in 4 10 0 (Mark 5 core.Start
      ∷ calls 6 0 (More (entry 0 0) (More (in_type Int (int 1)) Empty))
      ∷ calls 7 0 (More (entry 0 second) (More (in_type Int (int 2)) Empty))
      ∷ Mark 8 core.Finish
      ∷ returns 9 (binary_of binary.Add (binary_of binary.Mul (loaded Int (entry 7 3)) (int 10)) (loaded Int (entry 7 4)))
      ∷ []) ∷ [];
  main = 1;
}

-- ---- where tasks begin and end to be made

-- 1 #pragma css task output(d)
-- 2 void set(int *d, int v) { *d = v; }
-- 3 int begin(void) {
-- 4   #pragma css start
-- 5   return 5; }
-- 6 int x; int main(void) {
-- 7   set(&x, begin());
-- 8   #pragma css finish
-- 9   return x; }
-- it returns 5, and the call makes a task: whether it does is asked behind its arguments
abbrev pub begin : Function
begin = record { line = 3; end = 5; frame = 0; parameters = []; result = Int; task = None; body = body_of (Mark 4 core.Start ∷ returns 5 (int 5) ∷ []) }

abbrev pub begins_in_argument : Program
begins_in_argument = record {
  globals_end = 4100;
  datums = [];
  functions = record set { line = 2; end = 2; body = body_of (sets 2 (pointer_at 0) (int_at 8) ∷ []) }
      ∷ begin
      ∷ main_in 6 9 0 (calls 7 0 (More (Number (pos 4096)) (More (in_type Int (record { t = Int; e = Call 1 Empty })) Empty))
      ∷ Mark 8 core.Finish
      ∷ returns 9 (loaded Int (Number (pos 4096)))
      ∷ [])
      ∷ [];
  main = 2;
}

-- 1 int n; int main(void) {
-- 2   if (n) return 7;
-- 3   n = 1;
-- 4   #pragma css start
-- 5   return main() + 1; }
-- it returns 8: the outermost main alone acts as finish
abbrev pub calls_main : Program
calls_main = record {
  globals_end = 4100;
  datums = [];
  functions = main_in 1 5 0 (If 2 (loaded Int (Number (pos 4096))).e (returns 2 (int 7)) (Block Nothing)
      ∷ sets 3 (Number (pos 4096)) (int 1)
      ∷ Mark 4 core.Start
      ∷ returns 5 (binary_of binary.Add (record { t = Int; e = Call 0 Empty }) (int 1))
      ∷ []) ∷ [];
  main = 0;
}

-- the image of a finish in a line: an int of one byte, and no frames
abbrev pub finish_in : (line n : ℕ) → Image
finish_in line n = record { kind = OfFinish; line = line; address = 0; bytes = 0 ∷ 0 ∷ 0 ∷ n ∷ [] }

-- how many calls of tasks a verdict has
abbrev pub calls_of : Option Verdict → Option ℕ
calls_of v = option_map (λ v. length v.calls) v

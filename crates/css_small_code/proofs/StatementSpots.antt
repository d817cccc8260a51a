-- The plan of a program's code. A loop's pieces have their ranks in this order from the lowest: what stands behind the loop, the turn,
-- the test's jump, the condition, the jump back, the body.
use Rattle.std.proofs.Common.{◌≡◌, ℕ, ◌+◌, ◌≤◌, Bool, true, false, List, [], ◌∷◌, ◌++◌, length, refl, sym, ◌∙◌, arith, length-append}
use Rattle.std.specs.Prelude.{slice_get}
use Rattle.css_vm.specs.declared.code.Instr.{Instr}
use Rattle.css_vm.specs.declared.code.Op.{Op}
use Rattle.css_vm.specs.declared.code.Op.TheVariants as ops
use Rattle.css_vm.specs.declared.code.Conversion.TheVariants as conversions
use Rattle.css_vm.specs.Code.{Code}
use Rattle.css_vm.specs.Soundness.{Spot}
use Rattle.css_small.specs.Tree.{Statement, Declare, Initialise, Empty, Assign, AssignElement, Call, Mark, Put, Return, Block, If, IfElse, While, Statements, End, More, Function}
use Rattle.css_small_code.specs.Code.{in_line, expression_code, assignment_code, element_assignment_code, is_task_there, call_code, mark_of, statement_code, statements_code}
use Rattle.css_small_code.proofs.Lines.{length-in_line}
use Rattle.css_small_code.proofs.Spots.{spot, AllAtMost, both_at_most, BeginsEmpty, begins_with, spots, length-spots, spots_at_most, spots_begin}

-- a call's spots: the argument lies on the stack, and the answer whether tasks are made above it
abbrev pub call_spots : (is_task : Bool) → ℕ → List Spot
call_spots false above = spot 0 (above + 3) ∷ spot 1 (above + 2) ∷ spot 1 (above + 1) ∷ []
call_spots true above =
    spot 0 (above + 7) ∷ spot 1 (above + 6) ∷ spot 2 (above + 5) ∷ spot 1 (above + 4) ∷ spot 1 (above + 3) ∷ spot 1 (above + 2)
    ∷ spot 1 (above + 1) ∷ []

-- two parts, each with a spot for each instruction
pub length_both : (xs ys : List Spot) (is js : List Instr) → length xs ≡ length is → length ys ≡ length js → length (xs ++ ys) ≡ length (is ++ js)
length_both xs ys is js e f = omega (arith, e, f, length-append xs ys, length-append is js)

length_call : (is_task : Bool) (line f k at above : ℕ) → length (call_spots is_task above) ≡ length (in_line line (call_code is_task f k at))
length_call false line f k at above = refl
length_call true line f k at above = refl

call_within : (is_task : Bool) (line f k at above most : ℕ) → above + length (in_line line (call_code is_task f k at)) ≤ most → AllAtMost most (call_spots is_task above)
call_within false line f k at above most le = (omega (arith, le), (omega (arith, le), (omega (arith, le), tt)))
call_within true line f k at above most le =
    (omega (arith, le), (omega (arith, le), (omega (arith, le), (omega (arith, le), (omega (arith, le), (omega (arith, le), (omega (arith, le), tt)))))))

call_begins : (is_task : Bool) (above : ℕ) → BeginsEmpty (call_spots is_task above)
call_begins false above = refl
call_begins true above = refl

module _ (code : Code) (functions : List Function) where
  abbrev mutual
    -- the spots of a statement's code at a place, with ranks above those of what stands behind it
    pub spots_of : Statement → (at above : ℕ) → List Spot
    spots_of (Declare line k) at above = []
    spots_of (Initialise line k e) at above = spots code above 0 (assignment_code k e at)
    spots_of (Empty line) at above = []
    spots_of (Assign line k e) at above = spots code above 0 (assignment_code k e at)
    spots_of (AssignElement line i e) at above = spots code above 0 (element_assignment_code i e at)
    spots_of (Call line f k) at above = call_spots (is_task_there (slice_get functions f)) above
    spots_of (Mark line kind) at above = spots code above 0 (ops.Mark (mark_of kind) ∷ [])
    spots_of (Put line e) at above = spots code above 0 (expression_code e at ++ ops.Out conversions.Char ∷ ops.Drop ∷ [])
    spots_of (Return line e) at above = spots code above 0 (expression_code e at ++ ops.Ret ∷ [])
    spots_of (Block line all) at above = spots_of_all all at above
    spots_of (If line e s) at above =
        let ce = expression_code e at in
        let first = at + length ce + 1 in
        let cs = statement_code functions s first in
        spots code (above + length cs) 0 (ce ++ ops.Jumpz (first + length cs) ∷ []) ++ spots_of s first above
    spots_of (IfElse line e s other) at above =
        let ce = expression_code e at in
        let first = at + length ce + 1 in
        let cs = statement_code functions s first in
        let second = first + length cs + 1 in
        let co = statement_code functions other second in
        let jump = above + length co + 1 in
        spots code (jump + length cs) 0 (ce ++ ops.Jumpz second ∷ []) ++ spots_of s first jump ++ spot 0 jump ∷ [] ++ spots_of other second above
    spots_of (While line e s) at above =
        let ce = expression_code e at in
        let first = at + length ce + 2 in
        let cs = statement_code functions s first in
        let jump = above + length ce + 3 in
        spots code above 0 (ce ++ ops.Jumpz (first + length cs + 1) ∷ ops.Turn ∷ []) ++ spots_of s first jump ++ spot 0 jump ∷ []

    pub spots_of_all : Statements → (at above : ℕ) → List Spot
    spots_of_all End at above = []
    spots_of_all (More s rest) at above =
        let next = at + length (statement_code functions s at) in
        spots_of s at (above + length (statements_code functions rest next)) ++ spots_of_all rest next above

  -- ---- each instruction has a spot

  pub length_line : (line above : ℕ) (all : List Op) → length (spots code above 0 all) ≡ length (in_line line all)
  length_line line above all = length-spots code above 0 all ∙ sym (length-in_line line all)

  mutual
    pub length-spots_of : (s : Statement) (at above : ℕ) → length (spots_of s at above) ≡ length (statement_code functions s at)
    length-spots_of (Declare line k) at above = refl
    length-spots_of (Initialise line k e) at above = length_line line above (assignment_code k e at)
    length-spots_of (Empty line) at above = refl
    length-spots_of (Assign line k e) at above = length_line line above (assignment_code k e at)
    length-spots_of (AssignElement line i e) at above = length_line line above (element_assignment_code i e at)
    length-spots_of (Call line f k) at above = length_call (is_task_there (slice_get functions f)) line f k at above
    length-spots_of (Mark line kind) at above = refl
    length-spots_of (Put line e) at above = length_line line above (expression_code e at ++ ops.Out conversions.Char ∷ ops.Drop ∷ [])
    length-spots_of (Return line e) at above = length_line line above (expression_code e at ++ ops.Ret ∷ [])
    length-spots_of (Block line all) at above = length-spots_of_all all at above
    length-spots_of (If line e s) at above =
        let ce = expression_code e at in
        let first = at + length ce + 1 in
        let cs = statement_code functions s first in
        let test = ce ++ ops.Jumpz (first + length cs) ∷ [] in
        length_both (spots code (above + length cs) 0 test) (spots_of s first above) (in_line line test) cs (length_line line (above + length cs) test) (length-spots_of s first above)
    length-spots_of (IfElse line e s other) at above =
        let ce = expression_code e at in
        let first = at + length ce + 1 in
        let cs = statement_code functions s first in
        let second = first + length cs + 1 in
        let co = statement_code functions other second in
        let jump = above + length co + 1 in
        let test = ce ++ ops.Jumpz second ∷ [] in
        let heads = spots code (jump + length cs) 0 test in
        let head = in_line line test in
        let over = in_line line (ops.Jump (second + length co) ∷ []) in
        let rs = spots_of s first jump in
        length_both (heads ++ rs ++ spot 0 jump ∷ []) (spots_of other second above) (head ++ cs ++ over) co
        (length_both (heads ++ rs) (spot 0 jump ∷ []) (head ++ cs) over (length_both heads rs head cs (length_line line (jump + length cs) test) (length-spots_of s first jump)) refl)
        (length-spots_of other second above)
    length-spots_of (While line e s) at above =
        let ce = expression_code e at in
        let first = at + length ce + 2 in
        let cs = statement_code functions s first in
        let jump = above + length ce + 3 in
        let test = ce ++ ops.Jumpz (first + length cs + 1) ∷ ops.Turn ∷ [] in
        let heads = spots code above 0 test in
        let head = in_line line test in
        let rs = spots_of s first jump in
        length_both (heads ++ rs) (spot 0 jump ∷ []) (head ++ cs) (in_line line (ops.Jump at ∷ [])) (length_both heads rs head cs (length_line line above test) (length-spots_of s first jump)) refl

    pub length-spots_of_all : (all : Statements) (at above : ℕ) → length (spots_of_all all at above) ≡ length (statements_code functions all at)
    length-spots_of_all End at above = refl
    length-spots_of_all (More s rest) at above =
        let first = statement_code functions s at in
        let next = at + length first in
        let others = statements_code functions rest next in
        let high = above + length others in
        length_both (spots_of s at high) (spots_of_all rest next above) first others (length-spots_of s at high) (length-spots_of_all rest next above)

  -- ---- no rank is above what stands behind by more than the code's length

  line_within : (line above most : ℕ) (all : List Op) → above + length (in_line line all) ≤ most → AllAtMost most (spots code above 0 all)
  line_within line above most all le = spots_at_most code above 0 most all (omega (arith, le, length-in_line line all))

  mutual
    pub spots_within : (s : Statement) (at above most : ℕ) → above + length (statement_code functions s at) ≤ most → AllAtMost most (spots_of s at above)
    spots_within (Declare line k) at above most le = tt
    spots_within (Initialise line k e) at above most le = line_within line above most (assignment_code k e at) le
    spots_within (Empty line) at above most le = tt
    spots_within (Assign line k e) at above most le = line_within line above most (assignment_code k e at) le
    spots_within (AssignElement line i e) at above most le = line_within line above most (element_assignment_code i e at) le
    spots_within (Call line f k) at above most le = call_within (is_task_there (slice_get functions f)) line f k at above most le
    spots_within (Mark line kind) at above most le = line_within line above most (ops.Mark (mark_of kind) ∷ []) le
    spots_within (Put line e) at above most le = line_within line above most (expression_code e at ++ ops.Out conversions.Char ∷ ops.Drop ∷ []) le
    spots_within (Return line e) at above most le = line_within line above most (expression_code e at ++ ops.Ret ∷ []) le
    spots_within (Block line all) at above most le = spots_within_all all at above most le
    spots_within (If line e s) at above most le =
        let ce = expression_code e at in
        let first = at + length ce + 1 in
        let cs = statement_code functions s first in
        let test = ce ++ ops.Jumpz (first + length cs) ∷ [] in
        let all : above + length cs + length test ≤ most = omega (arith, le, length-append (in_line line test) cs, length-in_line line test) in
        both_at_most most (spots code (above + length cs) 0 test) (spots_of s first above) (spots_at_most code (above + length cs) 0 most test all) (spots_within s first above most (omega (arith, all)))
    spots_within (IfElse line e s other) at above most le =
        let ce = expression_code e at in
        let first = at + length ce + 1 in
        let cs = statement_code functions s first in
        let second = first + length cs + 1 in
        let co = statement_code functions other second in
        let jump = above + length co + 1 in
        let test = ce ++ ops.Jumpz second ∷ [] in
        let heads = spots code (jump + length cs) 0 test in
        let head = in_line line test in
        let over = in_line line (ops.Jump (second + length co) ∷ []) in
        let rs = spots_of s first jump in
        let all : jump + length cs + length test ≤ most = omega (arith, le, length-append (head ++ cs ++ over) co, length-append (head ++ cs) over, length-append head cs, length-in_line line test) in
        both_at_most most (heads ++ rs ++ spot 0 jump ∷ []) (spots_of other second above)
        (both_at_most most (heads ++ rs) (spot 0 jump ∷ [])
        (both_at_most most heads rs (spots_at_most code (jump + length cs) 0 most test all) (spots_within s first jump most (omega (arith, all))))
        (omega (arith, all), tt))
        (spots_within other second above most (omega (arith, all)))
    spots_within (While line e s) at above most le =
        let ce = expression_code e at in
        let first = at + length ce + 2 in
        let cs = statement_code functions s first in
        let jump = above + length ce + 3 in
        let last = ops.Jumpz (first + length cs + 1) ∷ ops.Turn ∷ [] in
        let test = ce ++ last in
        let heads = spots code above 0 test in
        let head = in_line line test in
        let back = in_line line (ops.Jump at ∷ []) in
        let rs = spots_of s first jump in
        let all : jump + length cs ≤ most = omega (arith, le, length-append (head ++ cs) back, length-append head cs, length-in_line line test, length-append ce last) in
        both_at_most most (heads ++ rs) (spot 0 jump ∷ [])
        (both_at_most most heads rs (spots_at_most code above 0 most test (omega (arith, all, length-append ce last))) (spots_within s first jump most all))
        (omega (arith, all), tt)

    pub spots_within_all : (all : Statements) (at above most : ℕ) → above + length (statements_code functions all at) ≤ most → AllAtMost most (spots_of_all all at above)
    spots_within_all End at above most le = tt
    spots_within_all (More s rest) at above most le =
        let first = statement_code functions s at in
        let next = at + length first in
        let others = statements_code functions rest next in
        let high = above + length others in
        let all : high + length first ≤ most = omega (arith, le, length-append first others) in
        both_at_most most (spots_of s at high) (spots_of_all rest next above) (spots_within s at high most all) (spots_within_all rest next above most (omega (arith, all)))

  -- ---- the stack is empty at first

  mutual
    pub spots_of-begin : (s : Statement) (at above : ℕ) → BeginsEmpty (spots_of s at above)
    spots_of-begin (Declare line k) at above = tt
    spots_of-begin (Initialise line k e) at above = spots_begin code above (assignment_code k e at)
    spots_of-begin (Empty line) at above = tt
    spots_of-begin (Assign line k e) at above = spots_begin code above (assignment_code k e at)
    spots_of-begin (AssignElement line i e) at above = spots_begin code above (element_assignment_code i e at)
    spots_of-begin (Call line f k) at above = call_begins (is_task_there (slice_get functions f)) above
    spots_of-begin (Mark line kind) at above = refl
    spots_of-begin (Put line e) at above = spots_begin code above (expression_code e at ++ ops.Out conversions.Char ∷ ops.Drop ∷ [])
    spots_of-begin (Return line e) at above = spots_begin code above (expression_code e at ++ ops.Ret ∷ [])
    spots_of-begin (Block line all) at above = spots_of_all-begin all at above
    spots_of-begin (If line e s) at above =
        let ce = expression_code e at in
        let first = at + length ce + 1 in
        let cs = statement_code functions s first in
        let test = ce ++ ops.Jumpz (first + length cs) ∷ [] in
        begins_with (spots code (above + length cs) 0 test) (spots_of s first above) (spots_begin code (above + length cs) test) (spots_of-begin s first above)
    spots_of-begin (IfElse line e s other) at above =
        let ce = expression_code e at in
        let first = at + length ce + 1 in
        let cs = statement_code functions s first in
        let second = first + length cs + 1 in
        let co = statement_code functions other second in
        let jump = above + length co + 1 in
        let test = ce ++ ops.Jumpz second ∷ [] in
        let heads = spots code (jump + length cs) 0 test in
        let rs = spots_of s first jump in
        begins_with (heads ++ rs ++ spot 0 jump ∷ []) (spots_of other second above)
        (begins_with (heads ++ rs) (spot 0 jump ∷ []) (begins_with heads rs (spots_begin code (jump + length cs) test) (spots_of-begin s first jump)) refl)
        (spots_of-begin other second above)
    spots_of-begin (While line e s) at above =
        let ce = expression_code e at in
        let first = at + length ce + 2 in
        let cs = statement_code functions s first in
        let jump = above + length ce + 3 in
        let test = ce ++ ops.Jumpz (first + length cs + 1) ∷ ops.Turn ∷ [] in
        let heads = spots code above 0 test in
        let rs = spots_of s first jump in
        begins_with (heads ++ rs) (spot 0 jump ∷ []) (begins_with heads rs (spots_begin code above test) (spots_of-begin s first jump)) refl

    pub spots_of_all-begin : (all : Statements) (at above : ℕ) → BeginsEmpty (spots_of_all all at above)
    spots_of_all-begin End at above = tt
    spots_of_all-begin (More s rest) at above =
        let next = at + length (statement_code functions s at) in
        let high = above + length (statements_code functions rest next) in
        begins_with (spots_of s at high) (spots_of_all rest next above) (spots_of-begin s at high) (spots_of_all-begin rest next above)

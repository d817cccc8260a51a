-- The code of what a task may reach makes no events.
use Rattle.std.proofs.Common.{◌≡◌, ℕ, suc, ◌-◌, pos, Bool, true, false, not, ◌&&◌, ◌||◌, if◌then◌else◌, List, [], ◌∷◌, ◌++◌, map, Option, Some, None, is_none, IsTrue, refl, ◌∙◌}
use Rattle.std.specs.Prelude.{slice_get}
use Rattle.css_base.specs.declared.int_type.IntType.{IntType}
use Rattle.css_base.specs.declared.int_type.IntType.TheVariants.{UChar, SChar, Short, UShort, Int, UInt, Long, ULong, LongLong, ULongLong}
use Rattle.css_num.specs.declared.operators.UnOp.TheVariants as unary
use Rattle.css_num.specs.declared.operators.BinOp.{BinOp}
use Rattle.css_num.specs.declared.operators.BinOp.TheVariants as binary
use Rattle.css_num.specs.Types.{has_sign}
use Rattle.css_num.specs.Conversion.{converted}
use Rattle.css_num.specs.Operators.{binary_type, is_division}
use Rattle.css_core.specs.Core.{Expression, Number, Local, Given, Value, Assign, Update, Convert, Unary, Binary, And, Or, Choice, Sequence, Call, Input, Put, Print, Allocate, Expressions, Empty, More, Gives, Old, New, Task, Function}
use Rattle.css_core.specs.Expressions.{is_true}
use Rattle.css_core.specs.Confined.{is_inner, are_inner, is_no_task}
use Rattle.css_core.specs.Typed.{Signature, signature, count_of}
use Rattle.css_isa.specs.Code.{Code}
use Rattle.css_isa.specs.Roles.{Role, Straight, Turning, Outward, Telling, Awaiting, Changing, Testing, Jumping, Branching, Calling, Submitting, Returning, role_of}
use Rattle.css_isa.specs.Soundness.{MakesNoEvent}
use Rattle.css_isa.specs.declared.code.Op.{Op}
use Rattle.css_isa.specs.declared.code.Op.TheVariants as ops
use Rattle.css_blocks.specs.declared.part.Way.{Way}
use Rattle.css_blocks.specs.Pieces.{Piece, Do, Exit, is_plain, row}
use Rattle.css_gen_expr.specs.declared.aim.Aim.{Aim}
use Rattle.css_gen_expr.specs.declared.aim.Aim.TheVariants.{Used, Tested, Low, Unused}
use Rattle.css_gen_expr.specs.Ranges.{contains, is_within}
use Rattle.css_gen_expr.specs.Operators.{plainly, ending, only_for, exact, narrowing, keeps, is_wide, takes_low, wraps, counting, shift_width, load_of, store_of, conversion_takes, conversion_code, unary_takes, unary_code, operation, operated, straight, binary_takes, binary_code, assignment_takes, is_stored_low, update_takes, old_code, new_code}
use Rattle.css_gen_expr.specs.Expressions.{done, raised, sides, side, is_turned, is_truth, truth_code, kept, keeps_old, lifted, update_ending, pieces_of, all_pieces}
use Rattle.css_gen_expr.specs.Tests as tests
use Rattle.css_gen_expr.specs.Calls as code
use Rattle.css_gen_expr.specs.Calls.{called_as, task_of}
use Rattle.css_gen_expr.specs.Inner.{IsInner, AreInner, CallsNoTasks}

-- ---- instructions

abbrev is_straight : Role → Bool
is_straight (Straight needed taken given) = true
is_straight Turning = false
is_straight (Outward taken given) = false
is_straight Telling = false
is_straight Awaiting = false
is_straight (Changing mode) = false
is_straight Testing = false
is_straight (Jumping to) = false
is_straight (Branching to) = false
is_straight (Calling k) = false
is_straight (Submitting k) = false
is_straight Returning = false

-- instructions that ask at most the memory
abbrev calm : List Op → Bool
calm [] = true
calm (op ∷ all) = is_straight (role_of op) && calm all

both_calm : (xs ys : List Op) → calm xs ≡ true → calm ys ≡ true → calm (xs ++ ys) ≡ true
both_calm [] ys e e' = e'
both_calm (op ∷ xs) ys e e' = by (is_straight (role_of op)) e (both_calm xs ys)
  where
    by : (b : Bool) → b && calm xs ≡ true → (calm xs ≡ true → calm ys ≡ true → calm (xs ++ ys) ≡ true) → b && calm (xs ++ ys) ≡ true
    by true e rest = rest e e'
    by false e rest = e

if_calm : (b : Bool) (xs ys : List Op) → calm xs ≡ true → calm ys ≡ true → calm (if b then xs else ys) ≡ true
if_calm true xs ys e e' = e
if_calm false xs ys e e' = e'

narrowing_calm : (t : IntType) → calm (narrowing t) ≡ true
narrowing_calm UChar = refl
narrowing_calm SChar = refl
narrowing_calm Short = refl
narrowing_calm UShort = refl
narrowing_calm Int = refl
narrowing_calm UInt = refl
narrowing_calm Long = refl
narrowing_calm ULong = refl
narrowing_calm LongLong = refl
narrowing_calm ULongLong = refl

counting_calm : (t : IntType) → calm (counting t) ≡ true
counting_calm UChar = refl
counting_calm SChar = refl
counting_calm Short = refl
counting_calm UShort = refl
counting_calm Int = refl
counting_calm UInt = refl
counting_calm Long = refl
counting_calm ULong = refl
counting_calm LongLong = refl
counting_calm ULongLong = refl

load_calm : (t : IntType) (rest : List Op) → calm (load_of t ∷ rest) ≡ calm rest
load_calm UChar rest = refl
load_calm SChar rest = refl
load_calm Short rest = refl
load_calm UShort rest = refl
load_calm Int rest = refl
load_calm UInt rest = refl
load_calm Long rest = refl
load_calm ULong rest = refl
load_calm LongLong rest = refl
load_calm ULongLong rest = refl

store_calm : (t : IntType) (rest : List Op) → calm (store_of t ∷ rest) ≡ calm rest
store_calm UChar rest = refl
store_calm SChar rest = refl
store_calm Short rest = refl
store_calm UShort rest = refl
store_calm Int rest = refl
store_calm UInt rest = refl
store_calm Long rest = refl
store_calm ULong rest = refl
store_calm LongLong rest = refl
store_calm ULongLong rest = refl

ending_calm : (aim : Aim) → calm (ending aim) ≡ true
ending_calm Used = refl
ending_calm Tested = refl
ending_calm Low = refl
ending_calm Unused = refl

exact_calm : (aim : Aim) (all : List Op) → calm all ≡ true → calm (exact aim all) ≡ true
exact_calm Used all e = e
exact_calm Tested all e = e
exact_calm Low all e = refl
exact_calm Unused all e = refl

only_calm : (aim : Aim) (all : List Op) → calm all ≡ true → calm (only_for aim all) ≡ true
only_calm Used all e = e
only_calm Tested all e = e
only_calm Low all e = e
only_calm Unused all e = refl

below_calm : (b : Bool) (rest : List Op) → calm rest ≡ true → calm ((if b then ops.Lts else ops.Ltu) ∷ rest) ≡ true
below_calm true rest e = e
below_calm false rest e = e

operation_calm : (op : BinOp) (t : IntType) → calm (operation op t) ≡ true
operation_calm binary.Mul t = refl
operation_calm binary.Div t = if_calm (has_sign t) (ops.Divs ∷ []) (ops.Divu ∷ []) refl refl
operation_calm binary.Rem t = if_calm (has_sign t) (ops.Rems ∷ []) (ops.Remu ∷ []) refl refl
operation_calm binary.Add t = refl
operation_calm binary.Sub t = refl
operation_calm binary.Shl t = both_calm (counting t) (ops.Shl (shift_width t) ∷ []) (counting_calm t) refl
operation_calm binary.Shr t =
    both_calm (counting t) (if has_sign t then ops.Shrs (shift_width t) ∷ [] else ops.Shru (shift_width t) ∷ []) (counting_calm t) (if_calm (has_sign t) (ops.Shrs (shift_width t) ∷ []) (ops.Shru (shift_width t) ∷ []) refl refl)
operation_calm binary.Lt t = below_calm (has_sign t) [] refl
operation_calm binary.Gt t = below_calm (has_sign t) [] refl
operation_calm binary.Le t = below_calm (has_sign t) (ops.Push (pos 0) ∷ ops.Eq ∷ []) refl
operation_calm binary.Ge t = below_calm (has_sign t) (ops.Push (pos 0) ∷ ops.Eq ∷ []) refl
operation_calm binary.Eq t = refl
operation_calm binary.Ne t = refl
operation_calm binary.And t = refl
operation_calm binary.Xor t = refl
operation_calm binary.Or t = refl

operated_calm : (low : Bool) (op : BinOp) (t : IntType) → calm (operated low op t) ≡ true
operated_calm low op t = both_calm (operation op t) (if wraps op t && not (low && is_wide t) then narrowing t else []) (operation_calm op t) (if_calm (wraps op t && not (low && is_wide t)) (narrowing t) [] (narrowing_calm t) refl)

binary_calm : (aim : Aim) (op : BinOp) (t : IntType) → calm (binary_code aim op t) ≡ true
binary_calm Used op t = operated_calm false op t
binary_calm Tested op t = operated_calm false (straight op) t
binary_calm Low op t = operated_calm true op t
binary_calm Unused op t = if_calm (is_division op) (operated true op t ++ ops.Drop ∷ []) [] (both_calm (operated true op t) (ops.Drop ∷ []) (operated_calm true op t) refl) refl

conversion_calm : (aim : Aim) (t : IntType) (within : Bool) → calm (conversion_code aim t within) ≡ true
conversion_calm Used t within = if_calm (keeps t within) [] (narrowing t) refl (narrowing_calm t)
conversion_calm Tested t within = if_calm (keeps t within) [] (narrowing t) refl (narrowing_calm t)
conversion_calm Low t within = if_calm (within || is_wide t) [] (narrowing t) refl (narrowing_calm t)
conversion_calm Unused t within = refl

minus_calm : (aim : Aim) (t : IntType) → calm (unary_code aim unary.Minus t) ≡ true
minus_calm Used t = narrowing_calm t
minus_calm Tested t = narrowing_calm t
minus_calm Low t = if_calm (not (is_wide t)) (narrowing t) [] (narrowing_calm t) refl
minus_calm Unused t = refl

complement_calm : (aim : Aim) (t : IntType) → calm (unary_code aim unary.Complement t) ≡ true
complement_calm Used t = if_calm (not (has_sign t)) (narrowing t) [] (narrowing_calm t) refl
complement_calm Tested t = if_calm (not (has_sign t)) (narrowing t) [] (narrowing_calm t) refl
complement_calm Low t = if_calm (not (has_sign t) && not (is_wide t)) (narrowing t) [] (narrowing_calm t) refl
complement_calm Unused t = refl

truth_calm : (turned truth : Bool) → calm (truth_code turned truth) ≡ true
truth_calm true truth = refl
truth_calm false true = refl
truth_calm false false = refl

kept_calm : (gives : Gives) (aim : Aim) → calm (kept gives aim) ≡ true
kept_calm New aim = refl
kept_calm Old Unused = refl
kept_calm Old Used = refl
kept_calm Old Tested = refl
kept_calm Old Low = refl

update_calm : (keeps : Bool) (aim : Aim) → calm (update_ending keeps aim) ≡ true
update_calm true aim = refl
update_calm false aim = ending_calm aim

old_calm : (low : Bool) (op : BinOp) (t within : IntType) → calm (old_code low op t within) ≡ true
old_calm low op t within = if_calm (contains within t || (takes_low low op within && is_wide within)) [] (narrowing within) refl (narrowing_calm within)

new_calm : (low : Bool) (op : BinOp) (t within : IntType) → calm (new_code low op t within) ≡ true
new_calm low op t within =
    both_calm (operated low op within) (if low || contains t (binary_type op within) then [] else narrowing t) (operated_calm low op within) (if_calm (low || contains t (binary_type op within)) [] (narrowing t) refl (narrowing_calm t))

-- ---- pieces

true_first : (a b : Bool) → IsTrue (a && b) → IsTrue a
true_first true b h = refl
true_first false b h = h

true_second : (a b : Bool) → IsTrue (a && b) → IsTrue b
true_second true b h = h
true_second false b h = cc

module _ (target : Code) (may_call : ℕ → Bool) where
  abbrev Is : List Piece → Type 0
  Is ps = IsInner target may_call (row ps)

  straight_inner : (r : Role) → is_straight r ≡ true → (is_plain r ≡ true) × MakesNoEvent target r
  straight_inner (Straight needed taken given) e = (refl, tt)
  straight_inner Turning e = cc
  straight_inner (Outward taken given) e = cc
  straight_inner Telling e = cc
  straight_inner Awaiting e = cc
  straight_inner (Changing mode) e = cc
  straight_inner Testing e = cc
  straight_inner (Jumping to) e = cc
  straight_inner (Branching to) e = cc
  straight_inner (Calling k) e = cc
  straight_inner (Submitting k) e = cc
  straight_inner Returning e = cc

  calm_first : (a b : Bool) → a && b ≡ true → a ≡ true
  calm_first true b e = refl
  calm_first false b e = e

  calm_second : (a b : Bool) → a && b ≡ true → b ≡ true
  calm_second true b e = e
  calm_second false b e = cc

  done_inner : (line : ℕ) (all : List Op) → calm all ≡ true → Is (done line all)
  done_inner line [] e = tt
  done_inner line (op ∷ all) e = (straight_inner (role_of op) (calm_first (is_straight (role_of op)) (calm all) e), done_inner line all (calm_second (is_straight (role_of op)) (calm all) e))

  both_inner : (ps qs : List Piece) → Is ps → Is qs → Is (ps ++ qs)
  both_inner [] qs is is' = is'
  both_inner (p ∷ ps) qs is is' = (is.0, both_inner ps qs is.1 is')

  then_done : (ps : List Piece) (line : ℕ) (all : List Op) → Is ps → calm all ≡ true → Is (ps ++ done line all)
  then_done ps line all is e = both_inner ps (done line all) is (done_inner line all e)

  then_one : (ps : List Piece) (p : Piece) → Is ps → IsInner target may_call p → Is (ps ++ p ∷ [])
  then_one ps p is is' = both_inner ps (p ∷ []) is (is', tt)

  sides_inner : (turned : Bool) (line : ℕ) (p q : Piece) → IsInner target may_call p → IsInner target may_call q → IsInner target may_call (sides turned line p q)
  sides_inner false line p q is is' = (is, is')
  sides_inner true line p q is is' = (is', is)

  side_inner : (turned : Bool) (line : ℕ) (p : Piece) → IsInner target may_call p → IsInner target may_call (side turned line p)
  side_inner false line p is = is
  side_inner true line p is = (tt, is)

  module _ (signatures : List Signature) (called : (line function count : ℕ) → List Piece) (calls_inner : (line k count : ℕ) → IsTrue (may_call k) → Is (called line k count)) where
    abbrev code_of : Aim → (line above : ℕ) → Expression → List Piece
    code_of = pieces_of signatures called

    abbrev all : (line above : ℕ) → Expressions → List Piece
    all = all_pieces signatures called

    abbrev Code_is : Expression → Type 0
    Code_is e = IsTrue (is_inner may_call e) → (aim : Aim) (line above : ℕ) → Is (code_of aim line above e)

    abbrev truly : (line above : ℕ) → Expression → List Piece
    truly line above e = code_of Tested line above e ++ done line (truth_code (is_turned e) (is_truth e))

    truly_is : (e : Expression) → ((aim : Aim) (line above : ℕ) → Is (code_of aim line above e)) → (line above : ℕ) → Is (truly line above e)
    truly_is e is line above = then_done (code_of Tested line above e) line (truth_code (is_turned e) (is_truth e)) (is Tested line above) (truth_calm (is_turned e) (is_truth e))

    sides_is : (a : Expression) → ((aim : Aim) (line above : ℕ) → Is (code_of aim line above a)) → (line above : ℕ) (p q : List Piece) → Is p → Is q → Is (code_of Tested line above a ++ sides (is_turned a) line (row p) (row q) ∷ [])
    sides_is a is line above p q is' is'' = then_one (code_of Tested line above a) (sides (is_turned a) line (row p) (row q)) (is Tested line above) (sides_inner (is_turned a) line (row p) (row q) is' is'')

    side_is : (a : Expression) → ((aim : Aim) (line above : ℕ) → Is (code_of aim line above a)) → (turned : Bool) (line above : ℕ) (p : List Piece) → Is p → Is (code_of Tested line above a ++ side turned line (row p) ∷ [])
    side_is a is turned line above p is' = then_one (code_of Tested line above a) (side turned line (row p)) (is Tested line above) (side_inner turned line (row p) is')

    one : (line v : ℕ) → Is (Do line (ops.Push (pos v)) ∷ [])
    one line v = ((refl, tt), tt)

    update_is : (gives : Gives) (t : IntType) (op : BinOp) (within : IntType) (place e : Expression) → ((aim : Aim) (line above : ℕ) → Is (code_of aim line above place)) → ((aim : Aim) (line above : ℕ) → Is (code_of aim line above e))
        → (aim : Aim) (line above : ℕ) → Is (code_of aim line above (Update gives t op within place e))
    update_is gives t op within place e is is' aim line above =
        let old = keeps_old gives aim in
        let low = is_stored_low old aim t in
        let loading = ops.Dup 0 ∷ load_of t ∷ (kept gives aim ++ old_code low op t within) in
        let second = code_of (update_takes low op within) line (lifted old above) e in
        then_done (code_of Low line above place ++ done line loading ++ second) line (new_code low op t within ++ store_of t ∷ update_ending old aim)
        (both_inner (code_of Low line above place ++ done line loading) second
        (then_done (code_of Low line above place) line loading (is Low line above) (load_calm t (kept gives aim ++ old_code low op t within) ∙ both_calm (kept gives aim) (old_code low op t within) (kept_calm gives aim) (old_calm low op t within)))
        (is' (update_takes low op within) line (lifted old above)))
        (both_calm (new_code low op t within) (store_of t ∷ update_ending old aim) (new_calm low op t within) (store_calm t (update_ending old aim) ∙ update_calm old aim))

    mutual
      pub inner : (e : Expression) → Code_is e
      inner (Number value) h aim line above = done_inner line (only_for aim (ops.Push (converted LongLong value) ∷ [])) (only_calm aim (ops.Push (converted LongLong value) ∷ []) refl)
      inner (Local offset) h aim line above = done_inner line (only_for aim (ops.Frame offset ∷ exact aim (narrowing UInt))) (only_calm aim (ops.Frame offset ∷ exact aim (narrowing UInt)) (exact_calm aim (narrowing UInt) refl))
      inner (Given k) h aim line above = done_inner line (only_for aim (ops.Dup (above - 1 - k) ∷ [])) (only_calm aim (ops.Dup (above - 1 - k) ∷ []) refl)
      inner (Value t place) h aim line above = then_done (code_of Low line above place) line (load_of t ∷ ending aim) (inner place h Low line above) (load_calm t (ending aim) ∙ ending_calm aim)
      inner (Assign t place e) h aim line above =
          then_done (code_of Low line above place ++ code_of (assignment_takes aim t) line (suc above) e) line (store_of t ∷ ending aim)
          (both_inner (code_of Low line above place) (code_of (assignment_takes aim t) line (suc above) e) (inner place (true_first (is_inner may_call place) (is_inner may_call e) h) Low line above)
          (inner e (true_second (is_inner may_call place) (is_inner may_call e) h) (assignment_takes aim t) line (suc above)))
          (store_calm t (ending aim) ∙ ending_calm aim)
      inner (Update gives t op within place e) h aim line above =
          update_is gives t op within place e (inner place (true_first (is_inner may_call place) (is_inner may_call e) h)) (inner e (true_second (is_inner may_call place) (is_inner may_call e) h)) aim line above
      inner (Convert t e) h aim line above =
          let within = is_within signatures t e in
          then_done (code_of (conversion_takes aim t within) line above e) line (conversion_code aim t within) (inner e h (conversion_takes aim t within) line above) (conversion_calm aim t within)
      inner (Unary unary.Plus t e) h aim line above = inner e h (plainly aim) line above
      inner (Unary unary.Not t e) h Used line above = then_done (code_of Tested line above e) line (truth_code (not (is_turned e)) (is_truth e)) (inner e h Tested line above) (truth_calm (not (is_turned e)) (is_truth e))
      inner (Unary unary.Not t e) h Tested line above = inner e h Tested line above
      inner (Unary unary.Not t e) h Low line above = then_done (code_of Tested line above e) line (truth_code (not (is_turned e)) (is_truth e)) (inner e h Tested line above) (truth_calm (not (is_turned e)) (is_truth e))
      inner (Unary unary.Not t e) h Unused line above = inner e h Unused line above
      inner (Unary unary.Minus t e) h aim line above = then_done (code_of (unary_takes aim unary.Minus t) line above e) line (unary_code aim unary.Minus t) (inner e h (unary_takes aim unary.Minus t) line above) (minus_calm aim t)
      inner (Unary unary.Complement t e) h aim line above = then_done (code_of (unary_takes aim unary.Complement t) line above e) line (unary_code aim unary.Complement t) (inner e h (unary_takes aim unary.Complement t) line above) (complement_calm aim t)
      inner (Binary op t a b) h aim line above =
          let taken = binary_takes aim op t in
          then_done (code_of taken line above a ++ code_of taken line (raised taken above) b) line (binary_code aim op t)
          (both_inner (code_of taken line above a) (code_of taken line (raised taken above) b) (inner a (true_first (is_inner may_call a) (is_inner may_call b) h) taken line above) (inner b (true_second (is_inner may_call a) (is_inner may_call b) h) taken line (raised taken above)))
          (binary_calm aim op t)
      inner (And a b) h Unused line above = side_is a (inner a (true_first (is_inner may_call a) (is_inner may_call b) h)) (is_turned a) line above (code_of Unused line above b) (inner b (true_second (is_inner may_call a) (is_inner may_call b) h) Unused line above)
      inner (And a b) h Used line above = sides_is a (inner a (true_first (is_inner may_call a) (is_inner may_call b) h)) line above (truly line above b) (Do line (ops.Push (pos 0)) ∷ []) (truly_is b (inner b (true_second (is_inner may_call a) (is_inner may_call b) h)) line above) (one line 0)
      inner (And a b) h Tested line above = sides_is a (inner a (true_first (is_inner may_call a) (is_inner may_call b) h)) line above (truly line above b) (Do line (ops.Push (pos 0)) ∷ []) (truly_is b (inner b (true_second (is_inner may_call a) (is_inner may_call b) h)) line above) (one line 0)
      inner (And a b) h Low line above = sides_is a (inner a (true_first (is_inner may_call a) (is_inner may_call b) h)) line above (truly line above b) (Do line (ops.Push (pos 0)) ∷ []) (truly_is b (inner b (true_second (is_inner may_call a) (is_inner may_call b) h)) line above) (one line 0)
      inner (Or a b) h Unused line above = side_is a (inner a (true_first (is_inner may_call a) (is_inner may_call b) h)) (not (is_turned a)) line above (code_of Unused line above b) (inner b (true_second (is_inner may_call a) (is_inner may_call b) h) Unused line above)
      inner (Or a b) h Used line above = sides_is a (inner a (true_first (is_inner may_call a) (is_inner may_call b) h)) line above (Do line (ops.Push (pos 1)) ∷ []) (truly line above b) (one line 1) (truly_is b (inner b (true_second (is_inner may_call a) (is_inner may_call b) h)) line above)
      inner (Or a b) h Tested line above = sides_is a (inner a (true_first (is_inner may_call a) (is_inner may_call b) h)) line above (Do line (ops.Push (pos 1)) ∷ []) (truly line above b) (one line 1) (truly_is b (inner b (true_second (is_inner may_call a) (is_inner may_call b) h)) line above)
      inner (Or a b) h Low line above = sides_is a (inner a (true_first (is_inner may_call a) (is_inner may_call b) h)) line above (Do line (ops.Push (pos 1)) ∷ []) (truly line above b) (one line 1) (truly_is b (inner b (true_second (is_inner may_call a) (is_inner may_call b) h)) line above)
      inner (Choice test a b) h aim line above =
          let both = true_second (is_inner may_call test) (is_inner may_call a && is_inner may_call b) h in
          sides_is test (inner test (true_first (is_inner may_call test) (is_inner may_call a && is_inner may_call b) h)) line above (code_of (plainly aim) line above a) (code_of (plainly aim) line above b)
          (inner a (true_first (is_inner may_call a) (is_inner may_call b) both) (plainly aim) line above) (inner b (true_second (is_inner may_call a) (is_inner may_call b) both) (plainly aim) line above)
      inner (Sequence a b) h aim line above =
          both_inner (code_of Unused line above a) (code_of (plainly aim) line above b) (inner a (true_first (is_inner may_call a) (is_inner may_call b) h) Unused line above) (inner b (true_second (is_inner may_call a) (is_inner may_call b) h) (plainly aim) line above)
      inner (Call k es) h aim line above =
          then_done (all line above es ++ called line k (count_of es)) line (ending aim)
          (both_inner (all line above es) (called line k (count_of es)) (all_inner es (true_second (may_call k) (are_inner may_call es) h) line above) (calls_inner line k (count_of es) (true_first (may_call k) (are_inner may_call es) h))) (ending_calm aim)
      inner Input h aim line above = cc
      inner (Put e) h aim line above = cc
      inner (Print format es) h aim line above = cc
      inner (Allocate size) h aim line above = cc

      all_inner : (es : Expressions) → IsTrue (are_inner may_call es) → (line above : ℕ) → Is (all line above es)
      all_inner Empty h line above = tt
      all_inner (More e others) h line above =
          both_inner (code_of Used line above e) (all line (suc above) others) (inner e (true_first (is_inner may_call e) (are_inner may_call others) h) Used line above) (all_inner others (true_second (is_inner may_call e) (are_inner may_call others) h) line (suc above))

  -- ---- conditions

  module _ (fs : List Function) (no_tasks : CallsNoTasks fs may_call) where
    task_inner : (line k count : ℕ) → IsTrue (may_call k) → (o : Option Task) → IsTrue (is_none o) → Is (called_as (map signature fs) line k count o)
    task_inner line k count h None e = (h, tt)
    task_inner line k count h (Some task) e = cc

    no_task_there : (o : Option Function) → IsTrue (is_no_task o) → IsTrue (is_none (task_of o))
    no_task_there None h = refl
    no_task_there (Some f) h = h

    calls_inner : (line k count : ℕ) → IsTrue (may_call k) → Is (code.called fs line k count)
    calls_inner line k count h = task_inner line k count h (task_of (slice_get fs k)) (no_task_there (slice_get fs k) (no_tasks k h))

    code_inner : (e : Expression) → IsTrue (is_inner may_call e) → (aim : Aim) (line above : ℕ) → Is (pieces_of (map signature fs) (code.called fs) aim line above e)
    code_inner = inner (map signature fs) (code.called fs) calls_inner

    does_plainly : (line : ℕ) (e : Expression) → IsTrue (is_inner may_call e) → (p : Piece) → IsInner target may_call p → Is (pieces_of (map signature fs) (code.called fs) Tested line 0 e ++ side (is_turned e) line p ∷ [])
    does_plainly line e h p is = then_one (pieces_of (map signature fs) (code.called fs) Tested line 0 e) (side (is_turned e) line p) (code_inner e h Tested line 0) (side_inner (is_turned e) line p is)

    does : (line : ℕ) (e : Expression) → IsTrue (is_inner may_call e) → (p : Piece) → IsInner target may_call p → Is (code.when fs line e p)
    does line (And a b) h p is = does line a (true_first (is_inner may_call a) (is_inner may_call b) h) (row (code.when fs line b p)) (does line b (true_second (is_inner may_call a) (is_inner may_call b) h) p is)
    does line e h p is = does_plainly line e h p is

    left_inner : (turned : Bool) (line : ℕ) (way : Way) → IsInner target may_call (tests.leaves turned line way)
    left_inner false line way = tt
    left_inner true line way = tt

    leaves_plainly : (line : ℕ) (way : Way) (e : Expression) → IsTrue (is_inner may_call e) → Is (pieces_of (map signature fs) (code.called fs) Tested line 0 e ++ tests.leaves (is_turned e) line way ∷ [])
    leaves_plainly line way e h = then_one (pieces_of (map signature fs) (code.called fs) Tested line 0 e) (tests.leaves (is_turned e) line way) (code_inner e h Tested line 0) (left_inner (is_turned e) line way)

    leaves : (line : ℕ) (way : Way) (e : Expression) → IsTrue (is_inner may_call e) → Is (code.unless fs line way e)
    leaves line way (Number v) h = by (is_true v)
      where
        by : (b : Bool) → Is (if b then [] else Exit line way ∷ [])
        by true = tt
        by false = (tt, tt)
    leaves line way (And a b) h =
        both_inner (code.unless fs line way a) (code.unless fs line way b) (leaves line way a (true_first (is_inner may_call a) (is_inner may_call b) h)) (leaves line way b (true_second (is_inner may_call a) (is_inner may_call b) h))
    leaves line way e h = leaves_plainly line way e h

    pub are_inner_codes : AreInner target may_call fs
    are_inner_codes = record {
      gives = λ line e h. code_inner e h Used line 0;
      drops = λ line e h. code_inner e h Unused line 0;
      chooses = λ line e h p q is is'. then_one (pieces_of (map signature fs) (code.called fs) Tested line 0 e) (sides (is_turned e) line p q) (code_inner e h Tested line 0) (sides_inner (is_turned e) line p q is is');
      does = does;
      leaves = leaves;
    }

-- The machine follows an expression, and leaves the cell of its value.
use Rattle.std.proofs.Common.{◌≡◌, ℕ, ◌+◌, ◌%◌, ◌^◌, ℤ, pos, Bool, true, false, not, int_eq, if◌then◌else◌, List, [], ◌∷◌, ◌++◌, length, Option, Some, None, refl, sym, ap, ◌∙◌, subst, arith, length-append}
use Rattle.css_base.specs.declared.int_type.IntType.TheVariants.{Int}
use Rattle.css_base.specs.declared.ending.FaultKind.TheVariants.{DivideByZero}
use Rattle.css_base.specs.declared.ending.Stop.TheVariants as stops
use Rattle.css_num.specs.declared.operators.UnOp.{UnOp}
use Rattle.css_num.specs.declared.operators.BinOp.{BinOp}
use Rattle.css_num.specs.Types.{IsInRange}
use Rattle.css_num.specs.Conversion.{converted}
use Rattle.css_num.specs.Operators.{truth_value, unary_value, binary_value}
use Rattle.css_semantics.specs.Dialogue.{Load, Tape, World, Outcome, Goes, Stopped, item, Fault, then_do, ask}
use Rattle.css_vm.specs.declared.code.Op.TheVariants as ops
use Rattle.css_vm.specs.declared.code.Narrow.TheVariants.{U32, S32}
use Rattle.css_vm.specs.Code.{Code}
use Rattle.css_vm.specs.Cells.{cell_of, sum_of, product_of, narrowed}
use Rattle.css_vm.specs.Machine.{Halt, On}
use Rattle.css_small.specs.Tree.{Expression, Number, Variable, Element, Unary, Binary, And, Or}
use Rattle.css_small_code.specs.Code.{truth_code, index_code, pointer_code, element_code, unary_code, binary_code, expression_code}
use Rattle.css_small_code.specs.Meaning.{place_of, address_of, element_of, given, is_true, load, pointer, element, value_of}
use Rattle.css_small.specs.Numbers.{Scope, IsWithin}
use Rattle.css_small_code.proofs.Runs.{Landing, Runs, Gives, runs_done, runs_steps, runs_stops, runs_then, runs_known, then_assoc}
use Rattle.css_small_code.proofs.Steps.{Running, state, From, Value, OpAt, runs_quiet, runs_asking, value_at}
use Rattle.css_small_code.proofs.LineStands.{OpsStand, ops_front, ops_back}
use Rattle.css_small_code.proofs.StraightSteps.{straight_runs}
use Rattle.css_small_code.proofs.Operators.{truth_cells}
use Rattle.css_small_code.proofs.OperatorSteps.{unary_runs, binary_runs, binary_stops}
use Rattle.css_small_code.proofs.CellsTests.{zero_test}
use Rattle.css_small_code.proofs.CellsElements.{element_cell}
use Rattle.css_small_code.proofs.InRange.{value_in_range}

module _ (w : World) (code : Code) (here : Running code) (line n : ℕ) where
  -- the machine follows this expression wherever its code stands
  abbrev pub Follows : Expression → Type 0
  Follows e = (place : ℕ) (stack : List ℕ) (t : Tape) → OpsStand here.routine.body line place (expression_code e place) →
      Runs n (From w code here place stack t) (Value w code here (place + length (expression_code e place)) stack) (value_of w here.activation.base e line t)

  -- its value is an int
  abbrev pub IsInt : Expression → Type 0
  IsInt e = (t : Tape) → Gives (IsInRange Int) (value_of w here.activation.base e line t)

  number_runs : (value : ℕ) → Follows (Number value)
  number_runs value place stack t h =
      runs_quiet w code here line (ops.Push (pos value)) (place + 1) (cell_of (pos value) ∷ stack) h.0 refl (runs_done n (Value w code here (place + 1) stack) (pos value) t)

  variable_runs : (k : ℕ) → Follows (Variable k)
  variable_runs k place stack t h =
      let base = here.activation.base in
      let o = ask w (Load (address_of base k) 4) line t in
      let after = λ (v : ℤ). On (state w code here (place + 1 + 1) (cell_of v ∷ stack)) in
      let asked = sym (then_assoc o (λ r t'. Goes (converted Int (pos r)) t') (λ v t'. Goes (after v) t')) in
      let e : place + 1 + 1 ≡ place + 2 = omega arith in
      value_at w code here (place + 1 + 1) (place + 2) e (runs_quiet w code here line (ops.Frame (place_of k)) (place + 1) ((base + place_of k) ∷ stack) h.0 refl (runs_asking w code here line ops.Load32s (load w base (address_of base k) line t) after h.1.0 asked))

  -- ---- elements

  -- the pointer, and on from its cell
  pointer_runs : {B : Type 0} {land : Landing Halt B} (place : ℕ) (stack : List ℕ) (t : Tape) (go : ℕ → Tape → Outcome B) → OpsStand here.routine.body line place pointer_code →
      ((p : ℕ) (t' : Tape) → Runs n (From w code here (place + 2) (narrowed U32 p ∷ stack) t') land (go p t')) → Runs n (From w code here place stack t) land (then_do (pointer w here.activation.base line t) go)
  pointer_runs {land = land} place stack t go h next =
      let base = here.activation.base in
      let after = λ (p : ℕ). On (state w code here (place + 1 + 1) (narrowed U32 p ∷ stack)) in
      let e : place + 1 + 1 ≡ place + 2 = omega arith in
      runs_quiet w code here line (ops.Frame (place_of 0)) (place + 1) ((base + place_of 0) ∷ stack) h.0 refl
      (runs_then (runs_asking w code here line ops.Load32u (pointer w base line t) after h.1.0 refl) (λ p t'. subst (λ q. Runs n (From w code here q (narrowed U32 p ∷ stack) t') land (go p t')) (sym e) (next p t')))

  -- The address of an element, and on from a cell that is the address modulo 2^32.
  pub element_runs : {B : Type 0} {land : Landing Halt B} (e : Expression) (place : ℕ) (stack : List ℕ) (t : Tape) (go : ℕ → Tape → Outcome B) → Follows e → OpsStand here.routine.body line place (element_code e place) →
      ((cell address : ℕ) (t' : Tape) → cell % 2 ^ 32 ≡ address → Runs n (From w code here (place + length (element_code e place)) (cell ∷ stack) t') land (go address t')) →
      Runs n (From w code here place stack t) land (then_do (element w here.activation.base e line t) go)
  element_runs {land = land} e place stack t go follow h next =
      let base = here.activation.base in
      let ce = expression_code e (place + 2) in
      let front = ops_front here.routine.body line place (pointer_code ++ ce) index_code h in
      let back = ops_back here.routine.body line place (pointer_code ++ ce) index_code h in
      let inside = ops_back here.routine.body line place pointer_code ce front in
      let mid = place + 2 + length ce in
      let there : place + length (pointer_code ++ ce) ≡ mid = omega arith in
      let last = subst (λ p. OpsStand here.routine.body line p index_code) there back in
      let same : mid + 3 ≡ place + length (element_code e place) = omega (arith, length-append (pointer_code ++ ce) index_code) in
      let indexed = λ (p : ℕ) (t' : Tape). then_do (value_of w base e line t') (λ i t''. Goes (element_of p i) t'') in
      let found = λ (p : ℕ) (i : ℤ) (t'' : Tape). let cell = sum_of (narrowed U32 p) (product_of (cell_of i) 4) in
      runs_steps 3 (From w code here (mid + 3) (cell ∷ stack) t'') (λ k. straight_runs w code here line index_code mid (cell_of i ∷ narrowed U32 p ∷ stack) (cell ∷ stack) t'' k last refl)
      (subst (λ q. Runs n (From w code here q (cell ∷ stack) t'') land (go (element_of p i) t'')) (sym same) (next cell (element_of p i) t'' (element_cell p i))) in
      let all = pointer_runs place stack t (λ p t'. then_do (indexed p t') go) (ops_front here.routine.body line place pointer_code ce front) (λ p t'.
      subst (λ o. Runs n (From w code here (place + 2) (narrowed U32 p ∷ stack) t') land o) (sym (then_assoc (value_of w base e line t') (λ i t''. Goes (element_of p i) t'') go))
      (runs_then (follow (place + 2) (narrowed U32 p ∷ stack) t' inside) (found p))) in
      subst (λ o. Runs n (From w code here place stack t) land o) (sym (then_assoc (pointer w base line t) indexed go)) all

  element_follows : (e : Expression) → Follows e → Follows (Element e)
  element_follows e follow place stack t h =
      let base = here.activation.base in
      let front = ops_front here.routine.body line place (element_code e place) (ops.Load32s ∷ []) h in
      let behind = ops_back here.routine.body line place (element_code e place) (ops.Load32s ∷ []) h in
      let mid = place + length (element_code e place) in
      let same : mid + 1 ≡ place + length (element_code e place ++ ops.Load32s ∷ []) = omega (arith, length-append (element_code e place) (ops.Load32s ∷ [])) in
      let after = λ (v : ℤ). On (state w code here (mid + 1) (cell_of v ∷ stack)) in
      value_at w code here (mid + 1) (place + length (element_code e place ++ ops.Load32s ∷ [])) same
      (element_runs e place stack t (λ address t'. load w base address line t') follow front (λ cell address t' is.
      let asked = λ (a : ℕ). then_do (ask w (Load a 4) line t') (λ r t''. Goes (On (state w code here (mid + 1) (narrowed S32 r ∷ stack))) t'') in
      let loads = ap asked is ∙ sym (then_assoc (ask w (Load address 4) line t') (λ r t''. Goes (converted Int (pos r)) t'') (λ v t''. Goes (after v) t'')) in
      runs_asking w code here line ops.Load32s (load w base address line t') after behind.0 loads))

  unary_follows : (op : UnOp) (e : Expression) → Follows e → IsInt e → Follows (Unary op e)
  unary_follows op e operand in_range place stack t h =
      let ce = expression_code e place in
      let behind = ops_back here.routine.body line place ce (unary_code op) h in
      let mid = place + length ce in
      let end = mid + length (unary_code op) in
      let same : end ≡ place + length (ce ++ unary_code op) = omega (arith, length-append ce (unary_code op)) in
      value_at w code here end (place + length (ce ++ unary_code op)) same
      (runs_known (IsInRange Int) (in_range t) (operand place stack t (ops_front here.routine.body line place ce (unary_code op) h)) (λ v t' int.
      let result = unary_value op Int v in
      runs_steps (length (unary_code op)) (λ k. Value w code here end stack k result t') (λ k. unary_runs w code here line mid op v stack t' k behind int) (runs_done n (Value w code here end stack) result t')))

  -- an operator's value, or its fault
  given_runs : (op : BinOp) (x y : ℤ) (o : Option ℤ) (place : ℕ) (stack : List ℕ) (t : Tape) → binary_value op Int x y ≡ o → OpsStand here.routine.body line place (binary_code op) → IsInRange Int x → IsInRange Int y →
      Runs n (From w code here place (cell_of y ∷ cell_of x ∷ stack) t) (Value w code here (place + length (binary_code op)) stack) (given o line t)
  given_runs op x y None place stack t gives h first second =
      runs_stops (length (binary_code op)) (Stopped (stops.Fault DivideByZero) line) (item (Fault DivideByZero) line ∷ t) (λ k. binary_stops w code here line place op x y stack t k h first second gives)
  given_runs op x y (Some z) place stack t gives h first second =
      let end = place + length (binary_code op) in
      runs_steps (length (binary_code op)) (λ k. Value w code here end stack k z t) (λ k. binary_runs w code here line place op x y z stack t k h first second gives) (runs_done n (Value w code here end stack) z t)

  binary_follows : (op : BinOp) (a b : Expression) → Follows a → IsInt a → Follows b → IsInt b → Follows (Binary op a b)
  binary_follows op a b first first_int second second_int place stack t h =
      let ca = expression_code a place in
      let mid = place + length ca in
      let cb = expression_code b mid in
      let both = ops_front here.routine.body line place (ca ++ cb) (binary_code op) h in
      let back = ops_back here.routine.body line place (ca ++ cb) (binary_code op) h in
      let seam : place + length (ca ++ cb) ≡ mid + length cb = omega (arith, length-append ca cb) in
      let last = subst (λ p. OpsStand here.routine.body line p (binary_code op)) seam back in
      let end = mid + length cb + length (binary_code op) in
      let same : end ≡ place + length (ca ++ cb ++ binary_code op) = omega (arith, seam, length-append (ca ++ cb) (binary_code op)) in
      value_at w code here end (place + length (ca ++ cb ++ binary_code op)) same
      (runs_known (IsInRange Int) (first_int t) (first place stack t (ops_front here.routine.body line place ca cb both)) (λ x t' x_int.
      runs_known (IsInRange Int) (second_int t') (second mid (cell_of x ∷ stack) t' (ops_back here.routine.body line place ca cb both)) (λ y t'' y_int.
      given_runs op x y (binary_value op Int x y) (mid + length cb) stack t'' refl last x_int y_int)))

  -- a jump where a value is 0
  pub jumpz_runs : {A : Type 0} {land : Landing Halt A} (to place : ℕ) (x : ℤ) (stack : List ℕ) (t : Tape) (past there : Outcome A) (zero : Bool) → int_eq x (pos 0) ≡ zero → IsInRange Int x → OpAt w code here line place (ops.Jumpz to) →
      Runs n (From w code here (place + 1) stack t) land past → Runs n (From w code here to stack t) land there → Runs n (From w code here place (cell_of x ∷ stack) t) land (if not zero then past else there)
  jumpz_runs to place x stack t past there true test int h behind ahead =
      runs_quiet w code here line (ops.Jumpz to) to stack h (ap (λ b. if b then Goes (On (state w code here to stack)) t else Goes (On (state w code here (place + 1) stack)) t) (zero_test x int ∙ test)) ahead
  jumpz_runs to place x stack t past there false test int h behind ahead =
      runs_quiet w code here line (ops.Jumpz to) (place + 1) stack h (ap (λ b. if b then Goes (On (state w code here to stack)) t else Goes (On (state w code here (place + 1) stack)) t) (zero_test x int ∙ test)) behind

  -- the truth of a value, and on from there
  truth_runs : {land : Landing Halt ℤ} {o : Outcome ℤ} (place : ℕ) (v : ℤ) (stack : List ℕ) (t : Tape) → IsInRange Int v → OpsStand here.routine.body line place truth_code →
      Runs n (From w code here (place + 2) (cell_of (truth_value (is_true v)) ∷ stack) t) land o → Runs n (From w code here place (cell_of v ∷ stack) t) land o
  truth_runs place v stack t int h r =
      let result = cell_of (truth_value (is_true v)) ∷ stack in
      runs_steps 2 (From w code here (place + 2) result t) (λ k. straight_runs w code here line truth_code place (cell_of v ∷ stack) result t k h (truth_cells v stack int)) r

  and_follows : (a b : Expression) → Follows a → IsInt a → Follows b → IsInt b → Follows (And a b)
  and_follows a b first first_int second second_int place stack t h =
      let ca = expression_code a place in
      let mid = place + length ca in
      let cb = expression_code b (mid + 1) in
      let no = mid + 1 + length cb + 3 in
      let tested = ca ++ ops.Jumpz no ∷ cb in
      let last = ops.Jump (no + 1) ∷ ops.Push (pos 0) ∷ [] in
      let front = ops_front here.routine.body line place (tested ++ truth_code) last h in
      let back = ops_back here.routine.body line place (tested ++ truth_code) last h in
      let operands = ops_front here.routine.body line place tested truth_code front in
      let jump = ops_back here.routine.body line place ca (ops.Jumpz no ∷ cb) operands in
      let behind = mid + 1 + length cb in
      let place_truth : place + length tested ≡ behind = omega (arith, length-append ca (ops.Jumpz no ∷ cb)) in
      let truth = subst (λ p. OpsStand here.routine.body line p truth_code) place_truth (ops_back here.routine.body line place tested truth_code front) in
      let place_jump : place + length (tested ++ truth_code) ≡ behind + 2 = omega (arith, place_truth, length-append tested truth_code) in
      let over = subst (λ p. OpsStand here.routine.body line p last) place_jump back in
      let place_no : behind + 2 + 1 ≡ no = omega arith in
      let zero = subst (λ p. OpAt w code here line p (ops.Push (pos 0))) place_no over.1.0 in
      let same : no + 1 ≡ place + length (tested ++ truth_code ++ last) = omega (arith, place_jump, length-append (tested ++ truth_code) last) in
      value_at w code here (no + 1) (place + length (tested ++ truth_code ++ last)) same
      (runs_known (IsInRange Int) (first_int t) (first place stack t (ops_front here.routine.body line place ca (ops.Jumpz no ∷ cb) operands)) (λ x t' x_int.
      jumpz_runs no mid x stack t' (then_do (value_of w here.activation.base b line t') (λ y t''. Goes (truth_value (is_true y)) t'')) (Goes (pos 0) t') (int_eq x (pos 0)) refl x_int jump.0
      (runs_known (IsInRange Int) (second_int t') (second (mid + 1) stack t' jump.1) (λ y t'' y_int.
      let result = truth_value (is_true y) in
      truth_runs behind y stack t'' y_int truth (runs_quiet w code here line (ops.Jump (no + 1)) (no + 1) (cell_of result ∷ stack) over.0 refl (runs_done n (Value w code here (no + 1) stack) result t''))))
      (runs_quiet w code here line (ops.Push (pos 0)) (no + 1) (cell_of (pos 0) ∷ stack) zero refl (runs_done n (Value w code here (no + 1) stack) (pos 0) t'))))

  or_follows : (a b : Expression) → Follows a → IsInt a → Follows b → IsInt b → Follows (Or a b)
  or_follows a b first first_int second second_int place stack t h =
      let ca = expression_code a place in
      let mid = place + length ca in
      let other = mid + 3 in
      let cb = expression_code b other in
      let end = other + length cb + 2 in
      let jumps = ops.Jumpz other ∷ ops.Push (pos 1) ∷ ops.Jump end ∷ cb in
      let operands = ops_front here.routine.body line place (ca ++ jumps) truth_code h in
      let jump = ops_back here.routine.body line place ca jumps operands in
      let place_second : mid + 1 + 1 + 1 ≡ other = omega arith in
      let right = subst (λ p. OpsStand here.routine.body line p cb) place_second jump.1.1.1 in
      let place_truth : place + length (ca ++ jumps) ≡ other + length cb = omega (arith, length-append ca jumps) in
      let truth = subst (λ p. OpsStand here.routine.body line p truth_code) place_truth (ops_back here.routine.body line place (ca ++ jumps) truth_code h) in
      let same : end ≡ place + length (ca ++ jumps ++ truth_code) = omega (arith, place_truth, length-append (ca ++ jumps) truth_code) in
      value_at w code here end (place + length (ca ++ jumps ++ truth_code)) same
      (runs_known (IsInRange Int) (first_int t) (first place stack t (ops_front here.routine.body line place ca jumps operands)) (λ x t' x_int.
      jumpz_runs other mid x stack t' (Goes (pos 1) t') (then_do (value_of w here.activation.base b line t') (λ y t''. Goes (truth_value (is_true y)) t'')) (int_eq x (pos 0)) refl x_int jump.0
      (runs_quiet w code here line (ops.Push (pos 1)) (mid + 1 + 1) (cell_of (pos 1) ∷ stack) jump.1.0 refl (runs_quiet w code here line (ops.Jump end) end (cell_of (pos 1) ∷ stack) jump.1.1.0 refl (runs_done n (Value w code here end stack) (pos 1) t')))
      (runs_known (IsInRange Int) (second_int t') (second other stack t' right) (λ y t'' y_int.
      truth_runs (other + length cb) y stack t'' y_int truth (runs_done n (Value w code here end stack) (truth_value (is_true y)) t'')))))

  -- every expression whose constants are ints
  pub follows : (scope : Scope) (e : Expression) → IsWithin scope e → Follows e
  follows scope (Number value) h = number_runs value
  follows scope (Variable k) h = variable_runs k
  follows scope (Element e) h = element_follows e (follows scope e h.1)
  follows scope (Unary op e) h = unary_follows op e (follows scope e h) (λ t. value_in_range w here.activation.base scope line e t h)
  follows scope (Binary op a b) h =
      binary_follows op a b (follows scope a h.0) (λ t. value_in_range w here.activation.base scope line a t h.0) (follows scope b h.1) (λ t. value_in_range w here.activation.base scope line b t h.1)
  follows scope (And a b) h =
      and_follows a b (follows scope a h.0) (λ t. value_in_range w here.activation.base scope line a t h.0) (follows scope b h.1) (λ t. value_in_range w here.activation.base scope line b t h.1)
  follows scope (Or a b) h =
      or_follows a b (follows scope a h.0) (λ t. value_in_range w here.activation.base scope line a t h.0) (follows scope b h.1) (λ t. value_in_range w here.activation.base scope line b t h.1)

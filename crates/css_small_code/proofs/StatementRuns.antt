-- The machine follows statements.
use Rattle.std.proofs.Common.{◌≡◌, ℕ, zero, suc, ◌+◌, ◌≤◌, ◌<◌, ◌%◌, ◌^◌, ℤ, pos, int_eq, List, [], ◌∷◌, ◌++◌, length, refl, sym, ap, ◌∙◌, subst, arith, length-append}
use Rattle.std.specs.Prelude.{slice_get}
use Rattle.css_base.specs.declared.int_type.IntType.TheVariants.{Int}
use Rattle.css_num.specs.Types.{IsInRange}
use Rattle.css_num.specs.Conversion.{modulo}
use Rattle.css_semantics.specs.Dialogue.{Store, Out, Turn, Tape, World, Outcome, Goes, then_do, ask}
use Rattle.css_vm.specs.declared.code.Op.TheVariants as ops
use Rattle.css_vm.specs.declared.code.Conversion.TheVariants as conversions
use Rattle.css_vm.specs.Code.{Code}
use Rattle.css_vm.specs.Cells.{cell_of}
use Rattle.css_vm.specs.Machine.{Halt, On, go_on, exec}
use Rattle.css_small.specs.declared.tree.Directive.{Directive}
use Rattle.css_small.specs.declared.tree.Directive.TheVariants as directives
use Rattle.css_small.specs.Tree as tree
use Rattle.css_small.specs.Tree.{Expression, Statement, Declare, Initialise, Empty, Assign, AssignElement, Call, Mark, Put, Return, Block, If, IfElse, While, Statements, More, Function}
use Rattle.css_small_code.specs.Code.{in_line, expression_code, assignment_code, element_code, element_assignment_code, call_code, is_task_there, mark_of, statement_code, statements_code}
use Rattle.css_small_code.specs.Meaning.{place_of, address_of, Flow, Next, Returned, on_next, store, value_of, Calling, action_of, turning, assigned, element_assigned, meaning, meanings}
use Rattle.css_small.specs.Numbers.{Scope, IsWithin, AreWithin, AllWithin}
use Rattle.css_small_code.proofs.Lines.{length-in_line}
use Rattle.css_small_code.proofs.Runs.{Landing, Runs, runs_done, runs_fewer, runs_counted, runs_step, runs_asks, runs_then, runs_behind, runs_known, then_assoc}
use Rattle.css_small_code.proofs.Stands.{Stands, stands_front, stands_back}
use Rattle.css_small_code.proofs.LineStands.{OpsStand, ops_front, ops_back}
use Rattle.css_small_code.proofs.Steps.{Running, state, From, OpAt, effect_at, value_at, one_step, runs_quiet, runs_asking}
use Rattle.css_small_code.proofs.Exits.{Flowing, Left, flow_at, ret_step}
use Rattle.css_small_code.proofs.CellsMemory.{byte_of-cell, bytes_of-cell}
use Rattle.css_small_code.proofs.InRange.{value_in_range}
use Rattle.css_small_code.proofs.ExpressionRuns.{jumpz_runs, element_runs, follows}

-- What calls mean the machine does, at each place where a call's code stands, of so many functions that may be named.
pub record CallsRun (w : World) (code : Code) (here : Running code) (call : Calling) (functions : List Function) (named n : ℕ) : Type 0 where
  pub by : (number k line place : ℕ) (stack : List ℕ) (t : Tape) → number < named → OpsStand here.routine.body line place (call_code (is_task_there (slice_get functions number)) number k place) →
      Runs n (From w code here place stack t) (λ k' r t'. exec w code k' (state w code here (place + length (call_code (is_task_there (slice_get functions number)) number k place)) stack) t')
      (call number (address_of here.activation.base k) here.activation.base line t)

module _ (w : World) (code : Code) (here : Running code) (call : Calling) (functions : List Function) (scope : Scope) (n : ℕ) (calls_run : CallsRun w code here call functions scope.functions n) where
  assignment_runs : (k : ℕ) (e : Expression) (line place : ℕ) (stack : List ℕ) (t : Tape) → IsWithin scope e → OpsStand here.routine.body line place (assignment_code k e place) →
      Runs n (From w code here place stack t) (Flowing w code here (place + length (in_line line (assignment_code k e place))) stack) (assigned w call here.activation.base n k e line t)
  assignment_runs k e line place stack t known h =
      let ce = expression_code e (place + 1) in
      let last = ops.Store32 ∷ ops.Drop ∷ [] in
      let mid = place + 1 + length ce in
      let behind = ops_back here.routine.body line (place + 1) ce last h.1 in
      let address = here.activation.base + place_of k in
      let framed = address ∷ stack in
      let same : mid + 1 + 1 ≡ place + length (in_line line (ops.Frame (place_of k) ∷ (ce ++ last))) = omega (arith, length-in_line line (ops.Frame (place_of k) ∷ (ce ++ last)), length-append ce last) in
      flow_at w code here (mid + 1 + 1) (place + length (in_line line (assignment_code k e place))) same
      (runs_quiet w code here line (ops.Frame (place_of k)) (place + 1) framed h.0 refl
      (runs_known (IsInRange Int) (value_in_range w here.activation.base scope line e t known) (follows w code here line n scope e known (place + 1) framed t (ops_front here.routine.body line (place + 1) ce last h.1)) (λ v t' int.
      let after = λ (r : ℕ). On (state w code here (mid + 1) (cell_of v ∷ stack)) in
      let stores = ap (λ bytes. then_do (ask w (Store (address % 2 ^ 32) bytes) line t') (λ r t''. Goes (after r) t'')) (bytes_of-cell v) in
      runs_then (runs_asking w code here line ops.Store32 (store w here.activation.base (address_of here.activation.base k) v line t') after behind.0 stores) (λ r t''.
      runs_quiet w code here line ops.Drop (mid + 1 + 1) stack behind.1.0 refl (runs_done n (Flowing w code here (mid + 1 + 1) stack) Next t'')))))

  element_assignment_runs : (i e : Expression) (line place : ℕ) (stack : List ℕ) (t : Tape) → IsWithin scope i → IsWithin scope e → OpsStand here.routine.body line place (element_assignment_code i e place) →
      Runs n (From w code here place stack t) (Flowing w code here (place + length (in_line line (element_assignment_code i e place))) stack) (element_assigned w call here.activation.base n i e line t)
  element_assignment_runs i e line place stack t index known h =
      let base = here.activation.base in
      let address_code = element_code i place in
      let at = place + length address_code in
      let ce = expression_code e at in
      let last = ops.Store32 ∷ ops.Drop ∷ [] in
      let mid = at + length ce in
      let front = ops_front here.routine.body line place (address_code ++ ce) last h in
      let there : place + length (address_code ++ ce) ≡ mid = omega (arith, length-append address_code ce) in
      let behind = subst (λ p. OpsStand here.routine.body line p last) there (ops_back here.routine.body line place (address_code ++ ce) last h) in
      let same : mid + 1 + 1 ≡ place + length (in_line line (address_code ++ ce ++ last)) = omega (arith, there, length-in_line line (address_code ++ ce ++ last), length-append (address_code ++ ce) last) in
      let stored = λ (address : ℕ) (v : ℤ) (t' : Tape). then_do (store w base address v line t') (λ r t''. Goes Next t'') in
      flow_at w code here (mid + 1 + 1) (place + length (in_line line (address_code ++ ce ++ last))) same
      (element_runs w code here line n i place stack t (λ address t'. then_do (value_of w base e line t') (λ v t''. stored address v t'')) (follows w code here line n scope i index) (ops_front here.routine.body line place address_code ce front) (λ cell address t' is.
      runs_known (IsInRange Int) (value_in_range w base scope line e t' known) (follows w code here line n scope e known at (cell ∷ stack) t' (ops_back here.routine.body line place address_code ce front)) (λ v t'' int.
      let after = λ (r : ℕ). On (state w code here (mid + 1) (cell_of v ∷ stack)) in
      let stores = ap (λ bytes. then_do (ask w (Store (cell % 2 ^ 32) bytes) line t'') (λ r t3. Goes (after r) t3)) (bytes_of-cell v) ∙ ap (λ a. then_do (store w base a v line t'') (λ r t3. Goes (after r) t3)) is in
      runs_then (runs_asking w code here line ops.Store32 (store w base address v line t'') after behind.0 stores) (λ r t3.
      runs_quiet w code here line ops.Drop (mid + 1 + 1) stack behind.1.0 refl (runs_done n (Flowing w code here (mid + 1 + 1) stack) Next t3)))))

  call_runs : (f k line place : ℕ) (stack : List ℕ) (t : Tape) → f < scope.functions → Stands here.routine.body place (statement_code functions (Call line f k) place) →
      Runs n (From w code here place stack t) (Flowing w code here (place + length (statement_code functions (Call line f k) place)) stack) (meaning w call here.activation.base n (Call line f k) t)
  call_runs f k line place stack t known h =
      let called = call_code (is_task_there (slice_get functions f)) f k place in
      let end = place + length called in
      flow_at w code here end (place + length (in_line line called)) (ap (λ l. place + l) (sym (length-in_line line called)))
      (runs_then (calls_run.by f k line place stack t known h) (λ r t'. runs_done n (Flowing w code here end stack) Next t'))

  -- a directive asks what it means
  mark_does : (kind : Directive) (line place : ℕ) (stack : List ℕ) (t : Tape) → effect_at w code here line place (ops.Mark (mark_of kind)) stack t ≡ then_do (ask w (action_of kind) line t) (λ r t'. Goes (On (state w code here (place + 1) stack)) t')
  mark_does directives.Start line place stack t = refl
  mark_does directives.Finish line place stack t = refl
  mark_does directives.Barrier line place stack t = refl

  mark_runs : (kind : Directive) (line place : ℕ) (stack : List ℕ) (t : Tape) → Stands here.routine.body place (statement_code functions (Mark line kind) place) →
      Runs n (From w code here place stack t) (Flowing w code here (place + 1) stack) (meaning w call here.activation.base n (Mark line kind) t)
  mark_runs kind line place stack t h =
      let after = λ (r : ℕ). On (state w code here (place + 1) stack) in
      runs_then (runs_asking w code here line (ops.Mark (mark_of kind)) (ask w (action_of kind) line t) after h.0 (mark_does kind line place stack t)) (λ r t'. runs_done n (Flowing w code here (place + 1) stack) Next t')

  put_runs : (e : Expression) (line place : ℕ) (stack : List ℕ) (t : Tape) → IsWithin scope e → Stands here.routine.body place (statement_code functions (Put line e) place) →
      Runs n (From w code here place stack t) (Flowing w code here (place + length (statement_code functions (Put line e) place)) stack) (meaning w call here.activation.base n (Put line e) t)
  put_runs e line place stack t known h =
      let ce = expression_code e place in
      let last = ops.Out conversions.Char ∷ ops.Drop ∷ [] in
      let mid = place + length ce in
      let behind = ops_back here.routine.body line place ce last h in
      let same : mid + 1 + 1 ≡ place + length (in_line line (ce ++ last)) = omega (arith, length-in_line line (ce ++ last), length-append ce last) in
      flow_at w code here (mid + 1 + 1) (place + length (in_line line (ce ++ last))) same
      (runs_known (IsInRange Int) (value_in_range w here.activation.base scope line e t known) (follows w code here line n scope e known place stack t (ops_front here.routine.body line place ce last h)) (λ v t' int.
      let after = λ (r : ℕ). On (state w code here (mid + 1) (r ∷ stack)) in
      let writes = ap (λ byte. then_do (ask w (Out (byte ∷ [])) line t') (λ r t''. Goes (after r) t'')) (byte_of-cell v) in
      runs_then (runs_asking w code here line (ops.Out conversions.Char) (ask w (Out (modulo v 256 ∷ [])) line t') after behind.0 writes) (λ r t''.
      runs_quiet w code here line ops.Drop (mid + 1 + 1) stack behind.1.0 refl (runs_done n (Flowing w code here (mid + 1 + 1) stack) Next t''))))

  return_runs : (e : Expression) (line place : ℕ) (stack : List ℕ) (t : Tape) → IsWithin scope e → Stands here.routine.body place (statement_code functions (Return line e) place) →
      Runs n (From w code here place stack t) (Flowing w code here (place + length (statement_code functions (Return line e) place)) stack) (meaning w call here.activation.base n (Return line e) t)
  return_runs e line place stack t known h =
      let ce = expression_code e place in
      let end = place + length (in_line line (ce ++ ops.Ret ∷ [])) in
      let behind = ops_back here.routine.body line place ce (ops.Ret ∷ []) h in
      runs_known (IsInRange Int) (value_in_range w here.activation.base scope line e t known) (follows w code here line n scope e known place stack t (ops_front here.routine.body line place ce (ops.Ret ∷ []) h)) (λ v t' int.
      runs_step (λ k. Left w code here k v line t') (ret_step w code here v line (place + length ce) stack t' behind.0) (runs_done n (Flowing w code here end stack) (Returned v line) t'))

  -- nothing to do
  skips : (place : ℕ) (stack : List ℕ) (t : Tape) → Runs n (From w code here place stack t) (Flowing w code here (place + 0) stack) (Goes Next t)
  skips place stack t = let e : place ≡ place + 0 = omega arith in flow_at w code here place (place + 0) e (runs_done n (Flowing w code here place stack) Next t)

  -- statements behind one that was left
  goes_on : (all : Statements) (place end : ℕ) (stack : List ℕ) → ((t : Tape) → Runs n (From w code here place stack t) (Flowing w code here end stack) (meanings w call here.activation.base n all t)) →
      (flow : Flow) (t : Tape) → Runs n (λ k. Flowing w code here place stack k flow t) (Flowing w code here end stack) (on_next (meanings w call here.activation.base n all) flow t)
  goes_on all place end stack rest Next t = rest t
  goes_on all place end stack rest (Returned v line) t = runs_done n (Flowing w code here end stack) (Returned v line) t

  -- a jump behind a statement
  jumps : (line place to : ℕ) (stack : List ℕ) → OpAt w code here line place (ops.Jump to) → (flow : Flow) (t : Tape) → Runs n (λ k. Flowing w code here place stack k flow t) (Flowing w code here to stack) (Goes flow t)
  jumps line place to stack h Next t = runs_quiet w code here line (ops.Jump to) to stack h refl (runs_done n (Flowing w code here to stack) Next t)
  jumps line place to stack h (Returned v line') t = runs_done n (Flowing w code here to stack) (Returned v line') t

  -- the machine follows this statement at this place, wherever it stands there
  abbrev RunsAt : Statement → ℕ → List ℕ → Type 0
  RunsAt s place stack = (t : Tape) → Stands here.routine.body place (statement_code functions s place) →
      Runs n (From w code here place stack t) (Flowing w code here (place + length (statement_code functions s place)) stack) (meaning w call here.activation.base n s t)

  if_runs : (line : ℕ) (e : Expression) (s : Statement) (place : ℕ) (stack : List ℕ) → IsWithin scope e → ((first : ℕ) → RunsAt s first stack) → RunsAt (If line e s) place stack
  if_runs line e s place stack known body t h =
      let ce = expression_code e place in
      let mid = place + length ce in
      let first = mid + 1 in
      let cs = statement_code functions s first in
      let end = first + length cs in
      let last = ops.Jumpz end ∷ [] in
      let head = in_line line (ce ++ last) in
      let front = stands_front here.routine.body place head cs h in
      let jump = ops_back here.routine.body line place ce last front in
      let length_head : length head ≡ length ce + 1 = omega (arith, length-in_line line (ce ++ last), length-append ce last) in
      let there : place + length head ≡ first = omega (arith, length_head) in
      let stands = subst (λ p. Stands here.routine.body p cs) there (stands_back here.routine.body place head cs h) in
      let same : end ≡ place + length (head ++ cs) = omega (arith, length_head, length-append head cs) in
      flow_at w code here end (place + length (head ++ cs)) same
      (runs_known (IsInRange Int) (value_in_range w here.activation.base scope line e t known) (follows w code here line n scope e known place stack t (ops_front here.routine.body line place ce last front)) (λ v t' int.
      jumpz_runs w code here line n end mid v stack t' (meaning w call here.activation.base n s t') (Goes Next t') (int_eq v (pos 0)) refl int jump.0 (body first t' stands) (runs_done n (Flowing w code here end stack) Next t')))

  if_else_runs : (line : ℕ) (e : Expression) (s other : Statement) (place : ℕ) (stack : List ℕ) → IsWithin scope e → ((first : ℕ) → RunsAt s first stack) → ((second : ℕ) → RunsAt other second stack) → RunsAt (IfElse line e s other) place stack
  if_else_runs line e s other place stack known body body' t h =
      let ce = expression_code e place in
      let mid = place + length ce in
      let first = mid + 1 in
      let cs = statement_code functions s first in
      let behind = first + length cs in
      let second = behind + 1 in
      let co = statement_code functions other second in
      let end = second + length co in
      let last = ops.Jumpz second ∷ [] in
      let over = in_line line (ops.Jump end ∷ []) in
      let head = in_line line (ce ++ last) in
      let two = stands_front here.routine.body place (head ++ cs ++ over) co h in
      let one = stands_front here.routine.body place (head ++ cs) over two in
      let front = stands_front here.routine.body place head cs one in
      let jump = ops_back here.routine.body line place ce last front in
      let length_head : length head ≡ length ce + 1 = omega (arith, length-in_line line (ce ++ last), length-append ce last) in
      let length_one : length (head ++ cs) ≡ length ce + 1 + length cs = omega (arith, length_head, length-append head cs) in
      let length_two : length (head ++ cs ++ over) ≡ length ce + 1 + length cs + 1 = omega (arith, length_one, length-append (head ++ cs) over) in
      let there : place + length head ≡ first = omega (arith, length_head) in
      let stands = subst (λ p. Stands here.routine.body p cs) there (stands_back here.routine.body place head cs one) in
      let there' : place + length (head ++ cs) ≡ behind = omega (arith, length_one) in
      let skip = subst (λ p. Stands here.routine.body p over) there' (stands_back here.routine.body place (head ++ cs) over two) in
      let there'' : place + length (head ++ cs ++ over) ≡ second = omega (arith, length_two) in
      let stands' = subst (λ p. Stands here.routine.body p co) there'' (stands_back here.routine.body place (head ++ cs ++ over) co h) in
      let same : end ≡ place + length (head ++ cs ++ over ++ co) = omega (arith, length_two, length-append (head ++ cs ++ over) co) in
      flow_at w code here end (place + length (head ++ cs ++ over ++ co)) same
      (runs_known (IsInRange Int) (value_in_range w here.activation.base scope line e t known) (follows w code here line n scope e known place stack t (ops_front here.routine.body line place ce last front)) (λ v t' int.
      jumpz_runs w code here line n second mid v stack t' (meaning w call here.activation.base n s t') (meaning w call here.activation.base n other t') (int_eq v (pos 0)) refl int jump.0
      (runs_behind (body first t' stands) (jumps line behind end stack skip.0))
      (body' second t' stands')))

  -- behind a turn's body the loop jumps back
  turns_back : {m : ℕ} (line place again end : ℕ) (stack : List ℕ) (go : Tape → Outcome Flow) → OpAt w code here line place (ops.Jump again) → ((t : Tape) → Runs m (From w code here again stack t) (Flowing w code here end stack) (go t)) →
      (flow : Flow) (t : Tape) → Runs m (λ k. Flowing w code here place stack k flow t) (Flowing w code here end stack) (on_next go flow t)
  turns_back line place again end stack go h r Next t = runs_quiet w code here line (ops.Jump again) again stack h refl (r t)
  turns_back {m = m} line place again end stack go h r (Returned v line') t = runs_done m (Flowing w code here end stack) (Returned v line') t

  -- a turn is a step that counts
  turn_runs : {m : ℕ} {land : Landing Halt Flow} (line place : ℕ) (stack : List ℕ) (go : ℕ → Tape → Outcome Flow) → OpAt w code here line place ops.Turn → ((r : ℕ) (t : Tape) → Runs m (From w code here (place + 1) stack t) land (go r t)) →
      (t : Tape) → Runs (suc m) (From w code here place stack t) land (then_do (ask w Turn line t) go)
  turn_runs {m = m} {land = land} line place stack go h r t =
      let o = ask w Turn line t in
      let after = λ (r : ℕ) (t' : Tape). Goes (On (state w code here (place + 1) stack)) t' in
      runs_counted (λ k. then_do o (λ r t'. From w code here (place + 1) stack t' k))
      (λ k. one_step w code here line ops.Turn place stack t (then_do o after) h refl k ∙ then_assoc o after (go_on (exec w code k)))
      (runs_then (runs_asks {land = λ k r t'. From w code here (place + 1) stack t' k} o (λ k. refl)) r)

  -- as many turns as steps at least: a loop from its condition on
  turns_run : (line : ℕ) (e : Expression) (s : Statement) (place mid end : ℕ) (stack : List ℕ) → IsWithin scope e → mid ≡ place + length (expression_code e place) → OpsStand here.routine.body line place (expression_code e place) →
      OpAt w code here line mid (ops.Jumpz end) → OpAt w code here line (mid + 1) ops.Turn →
      ((t : Tape) → Runs n (From w code here (mid + 1 + 1) stack t) (Flowing w code here (mid + 1 + 1 + length (statement_code functions s (mid + 1 + 1))) stack) (meaning w call here.activation.base n s t)) →
      OpAt w code here line (mid + 1 + 1 + length (statement_code functions s (mid + 1 + 1))) (ops.Jump place) →
      (m : ℕ) → m ≤ n → (t : Tape) → Runs m (From w code here place stack t) (Flowing w code here end stack) (turning w (value_of w here.activation.base e line) (meaning w call here.activation.base n s) line m t)
  turns_run line e s place mid end stack known is stands test turn body back zero le t = record { by = (0, omega arith, refl) }
  turns_run line e s place mid end stack known is stands test turn body back (suc m) le t =
      let behind = mid + 1 + 1 + length (statement_code functions s (mid + 1 + 1)) in
      let more = turning w (value_of w here.activation.base e line) (meaning w call here.activation.base n s) line m in
      let go = λ (r : ℕ) (t' : Tape). then_do (meaning w call here.activation.base n s t') (on_next more) in
      let condition = runs_fewer le (follows w code here line n scope e known place stack t stands) in
      runs_known (IsInRange Int) (value_in_range w here.activation.base scope line e t known) (value_at w code here (place + length (expression_code e place)) mid (sym is) condition) (λ v t' int.
      jumpz_runs w code here line (suc m) end mid v stack t' (then_do (ask w Turn line t') go) (Goes Next t') (int_eq v (pos 0)) refl int test
      (turn_runs line (mid + 1) stack go turn (λ r t''.
      runs_then (runs_fewer (omega arith) (body t'')) (turns_back line behind place end stack more back (turns_run line e s place mid end stack known is stands test turn body back m (omega arith)))) t')
      (runs_done (suc m) (Flowing w code here end stack) Next t'))

  while_runs : (line : ℕ) (e : Expression) (s : Statement) (place : ℕ) (stack : List ℕ) → IsWithin scope e → ((first : ℕ) → RunsAt s first stack) → RunsAt (While line e s) place stack
  while_runs line e s place stack known body t h =
      let ce = expression_code e place in
      let mid = place + length ce in
      let first = mid + 2 in
      let cs = statement_code functions s first in
      let end = first + length cs + 1 in
      let last = ops.Jumpz end ∷ ops.Turn ∷ [] in
      let back = in_line line (ops.Jump place ∷ []) in
      let head = in_line line (ce ++ last) in
      let one = stands_front here.routine.body place (head ++ cs) back h in
      let front = stands_front here.routine.body place head cs one in
      let jump = ops_back here.routine.body line place ce last front in
      let length_head : length head ≡ length ce + 2 = omega (arith, length-in_line line (ce ++ last), length-append ce last) in
      let length_one : length (head ++ cs) ≡ length ce + 2 + length cs = omega (arith, length_head, length-append head cs) in
      let there : place + length head ≡ first = omega (arith, length_head) in
      let stands = subst (λ p. Stands here.routine.body p cs) there (stands_back here.routine.body place head cs one) in
      let there' : place + length (head ++ cs) ≡ first + length cs = omega (arith, length_one) in
      let again = (subst (λ p. Stands here.routine.body p back) there' (stands_back here.routine.body place (head ++ cs) back h)).0 in
      let same : end ≡ place + length (head ++ cs ++ back) = omega (arith, length_one, length-append (head ++ cs) back) in
      let two : first ≡ mid + 1 + 1 = omega arith in
      let followed : (t' : Tape) → Runs n (From w code here (mid + 1 + 1) stack t') (Flowing w code here (mid + 1 + 1 + length (statement_code functions s (mid + 1 + 1))) stack) (meaning w call here.activation.base n s t') =
      λ t'. subst (λ p. Runs n (From w code here p stack t') (Flowing w code here (p + length (statement_code functions s p)) stack) (meaning w call here.activation.base n s t')) two (body first t' stands) in
      let jump_back = subst (λ p. OpAt w code here line (p + length (statement_code functions s p)) (ops.Jump place)) two again in
      flow_at w code here end (place + length (head ++ cs ++ back)) same
      (turns_run line e s place mid end stack known refl (ops_front here.routine.body line place ce last front) jump.0 jump.1.0 followed jump_back n (omega arith) t)

  mutual
    statement_runs : (s : Statement) (place : ℕ) (stack : List ℕ) (t : Tape) → AreWithin scope s → Stands here.routine.body place (statement_code functions s place) →
        Runs n (From w code here place stack t) (Flowing w code here (place + length (statement_code functions s place)) stack) (meaning w call here.activation.base n s t)
    statement_runs (Declare line k) place stack t known h = skips place stack t
    statement_runs (Initialise line k e) place stack t known h = assignment_runs k e line place stack t known.1 h
    statement_runs (Empty line) place stack t known h = skips place stack t
    statement_runs (Assign line k e) place stack t known h = assignment_runs k e line place stack t known.1 h
    statement_runs (AssignElement line i e) place stack t known h = element_assignment_runs i e line place stack t known.1 known.2 h
    statement_runs (Call line f k) place stack t known h = call_runs f k line place stack t known.0 h
    statement_runs (Mark line kind) place stack t known h = mark_runs kind line place stack t h
    statement_runs (Put line e) place stack t known h = put_runs e line place stack t known.1 h
    statement_runs (Return line e) place stack t known h = return_runs e line place stack t known.1 h
    statement_runs (Block line all) place stack t known h = statements_run all place stack t known h
    statement_runs (If line e s) place stack t known h = if_runs line e s place stack known.0 (λ first t'. statement_runs s first stack t' known.1) t h
    statement_runs (IfElse line e s other) place stack t known h =
        if_else_runs line e s other place stack known.0 (λ first t'. statement_runs s first stack t' known.1) (λ second t'. statement_runs other second stack t' known.2) t h
    statement_runs (While line e s) place stack t known h = while_runs line e s place stack known.0 (λ first t'. statement_runs s first stack t' known.1) t h

    pub statements_run : (all : Statements) (place : ℕ) (stack : List ℕ) (t : Tape) → AllWithin scope all → Stands here.routine.body place (statements_code functions all place) →
        Runs n (From w code here place stack t) (Flowing w code here (place + length (statements_code functions all place)) stack) (meanings w call here.activation.base n all t)
    statements_run tree.End place stack t known h = skips place stack t
    statements_run (More s rest) place stack t known h =
        let first = statement_code functions s place in
        let mid = place + length first in
        let others = statements_code functions rest mid in
        let same : mid + length others ≡ place + length (first ++ others) = omega (arith, length-append first others) in
        flow_at w code here (mid + length others) (place + length (first ++ others)) same
        (runs_then (statement_runs s place stack t known.0 (stands_front here.routine.body place first others h)) (λ flow t'.
        goes_on rest mid (mid + length others) stack (λ t''. statements_run rest mid stack t'' known.1 (stands_back here.routine.body place first others h)) flow t'))

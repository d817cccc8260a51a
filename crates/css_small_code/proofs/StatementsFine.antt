-- A program's code goes on as its plan says.
use Rattle.std.proofs.Common.{◌≡◌, ℕ, ◌+◌, ◌-◌, ◌<◌, Bool, true, false, List, [], ◌∷◌, ◌++◌, length, Some, refl, sym, ap, ◌∙◌, subst, arith, length-append}
use Rattle.std.specs.Prelude.{slice_get}
use Rattle.css_vm.specs.declared.code.Instr.{Instr}
use Rattle.css_vm.specs.declared.code.Op.{Op}
use Rattle.css_vm.specs.declared.code.Op.TheVariants as ops
use Rattle.css_vm.specs.declared.code.Conversion.TheVariants as conversions
use Rattle.css_vm.specs.declared.code.MarkKind.TheVariants as marks
use Rattle.css_vm.specs.Code.{Routine, Shape, Code, all_dimensions}
use Rattle.css_vm.specs.Soundness.{Spot, Stays, gives, arguments_taken, dimensions_taken, dimensions_of_task, IsFine}
use Rattle.css_small.specs.declared.tree.Directive.{Directive}
use Rattle.css_small.specs.declared.tree.Directive.TheVariants as directives
use Rattle.css_small.specs.Tree.{Expression, Statement, Declare, Initialise, Empty, Assign, AssignElement, Call, Mark, Put, Return, Block, If, IfElse, While, Statements, End, More, Function}
use Rattle.css_small.specs.Numbers.{Scope, AreWithin, AllWithin}
use Rattle.css_small_code.specs.Code.{in_line, expression_code, assignment_code, element_code, element_assignment_code, is_task_there, call_code, mark_of, statement_code, statements_code}
use Rattle.css_small_code.specs.Meaning.{place_of}
use Rattle.css_small_code.proofs.Lines.{in_line-append, length-in_line}
use Rattle.css_small_code.proofs.Stands.{Stands, stands_front, stands_back}
use Rattle.css_small_code.proofs.Heights.{behind, behind-append, AllFit, both_fit, HeightsStand, heights_front, heights_back}
use Rattle.css_small_code.proofs.ExpressionHeights.{behind_expression, behind_element, expression_fits, address_fits}
use Rattle.css_small_code.proofs.Inside.{Inside, both_inside, expression_inside, element_inside}
use Rattle.css_small_code.proofs.Spots.{spot, spots, length-spots, spots-append, At, at_there, leads_at, heights_stand, AllFine, both_fine, line_fine, begins_at}
use Rattle.css_small_code.proofs.StatementSpots.{call_spots, length_both, length_line, spots_of, spots_of_all, length-spots_of, length-spots_of_all, spots_within, spots_within_all, spots_of-begin, spots_of_all-begin}

-- ---- what a call finds

-- a function that is there with one parameter, and as a task with no dimensions
abbrev pub IsCallable : Code → (is_task : Bool) → ℕ → Type 0
IsCallable code false k = (f : Routine) × (slice_get code.functions k ≡ Some f) × (length f.parameters ≡ 1)
IsCallable code true k = (f : Routine) × (s : Shape) × (slice_get code.functions k ≡ Some f) × (f.task ≡ Some s) × (length f.parameters ≡ 1) × (all_dimensions s.arguments ≡ 0)

-- ---- instructions go on as the plan says

behind_ended : (code : Code) (e : Expression) (at height end : ℕ) (last : List Op) → behind code (height + 1) last ≡ end → behind code height (expression_code e at ++ last) ≡ end
behind_ended code e at height end last h =
    behind-append code height (expression_code e at) last ∙ ap (λ k. behind code k last) (behind_expression code e at height) ∙ h

behind_assignment : (code : Code) (k : ℕ) (e : Expression) (at : ℕ) → behind code 0 (assignment_code k e at) ≡ 0
behind_assignment code k e at = behind_ended code e (at + 1) 1 0 (ops.Store32 ∷ ops.Drop ∷ []) refl

-- behind the place of an element and a value
behind_place_and_value : (code : Code) (i e : Expression) (at : ℕ) → behind code 0 (element_code i at ++ expression_code e (at + length (element_code i at))) ≡ 2
behind_place_and_value code i e at =
    let place = element_code i at in
    let ce = expression_code e (at + length place) in
    behind-append code 0 place ce ∙ ap (λ k. behind code k ce) (behind_element code i at 0) ∙ behind_expression code e (at + length place) 1

behind_element_assignment : (code : Code) (i e : Expression) (at : ℕ) → behind code 0 (element_assignment_code i e at) ≡ 0
behind_element_assignment code i e at =
    let place = element_code i at in
    let ce = expression_code e (at + length place) in
    let last = ops.Store32 ∷ ops.Drop ∷ [] in
    behind-append code 0 (place ++ ce) last ∙ ap (λ k. behind code k last) (behind_place_and_value code i e at)

mark_gives : (code : Code) (kind : Directive) → gives code (ops.Mark (mark_of kind)) ≡ 0
mark_gives code directives.Start = refl
mark_gives code directives.Finish = refl
mark_gives code directives.Barrier = refl

-- ---- jumps of one line

-- an expression's code and operators behind it that don't jump
ended_inside : (e : Expression) (place : ℕ) (last : List Op) → Inside (place + length (expression_code e place ++ last)) (place + length (expression_code e place)) last → Inside (place + length (expression_code e place ++ last)) place (expression_code e place ++ last)
ended_inside e place last h =
    let ce = expression_code e place in
    both_inside (place + length (ce ++ last)) place ce last (expression_inside e (place + length (ce ++ last)) place (omega (arith, length-append ce last))) h

assignment_inside : (k : ℕ) (e : Expression) (place : ℕ) → Inside (place + length (assignment_code k e place)) place (assignment_code k e place)
assignment_inside k e place =
    let rest = expression_code e (place + 1) ++ ops.Store32 ∷ ops.Drop ∷ [] in
    let there : place + 1 + length rest ≡ place + length (ops.Frame (place_of k) ∷ rest) = omega arith in
    (tt, subst (λ end. Inside end (place + 1) rest) there (ended_inside e (place + 1) (ops.Store32 ∷ ops.Drop ∷ []) (tt, (tt, tt))))

element_assignment_inside : (i e : Expression) (at : ℕ) → Inside (at + length (element_assignment_code i e at)) at (element_assignment_code i e at)
element_assignment_inside i e at =
    let place = element_code i at in
    let ce = expression_code e (at + length place) in
    let last = ops.Store32 ∷ ops.Drop ∷ [] in
    let end = at + length (place ++ ce ++ last) in
    let one = length-append (place ++ ce) last in
    let two = length-append place ce in
    both_inside end at (place ++ ce) last
    (both_inside end at place ce (element_inside i end at (omega (arith, one, two))) (expression_inside e end (at + length place) (omega (arith, one, two)))) (tt, (tt, tt))

module _ (code : Code) (functions : List Function) (plan : List Spot) where
  -- ---- operators of one line find their cells

  -- an expression's code and operators behind it
  ended_fits : (e : Expression) (place height : ℕ) (op : Op) (last : List Op) → HeightsStand code plan place height (expression_code e place ++ op ∷ last) → AllFit code plan (height + 1) (op ∷ last) → AllFit code plan height (expression_code e place ++ op ∷ last)
  ended_fits e place height op last h fit =
      let ce = expression_code e place in
      let one = behind_expression code e place height in
      let back = heights_back code plan place height (height + 1) ce (op ∷ last) one h in
      both_fit code plan height (height + 1) ce (op ∷ last) one (expression_fits code plan e place height (heights_front code plan place height ce (op ∷ last) h) back.0) fit

  assignment_fits : (k : ℕ) (e : Expression) (place : ℕ) → HeightsStand code plan place 0 (assignment_code k e place) → AllFit code plan 0 (assignment_code k e place)
  assignment_fits k e place h =
      (omega arith, tt, tt, ended_fits e (place + 1) 1 ops.Store32 (ops.Drop ∷ []) h.1 (omega arith, tt, tt, (omega arith, tt, tt, tt)))

  element_assignment_fits : (i e : Expression) (at : ℕ) → HeightsStand code plan at 0 (element_assignment_code i e at) → AllFit code plan 0 (element_assignment_code i e at)
  element_assignment_fits i e at h =
      let place = element_code i at in
      let mid = at + length place in
      let ce = expression_code e mid in
      let last = ops.Store32 ∷ ops.Drop ∷ [] in
      let one = behind_element code i at 0 in
      let two = behind_place_and_value code i e at in
      let front = heights_front code plan at 0 (place ++ ce) last h in
      let back = heights_back code plan at 0 2 (place ++ ce) last two h in
      let there : at + length (place ++ ce) ≡ mid + length ce = omega (arith, length-append place ce) in
      let end = subst (λ p. Stays plan p 2) there back.0 in
      both_fit code plan 0 2 (place ++ ce) last two
      (both_fit code plan 0 1 place ce one
      (address_fits code plan i at 0 (heights_front code plan at 0 place ce front))
      (expression_fits code plan e mid 1 (heights_back code plan at 0 1 place ce one front) end))
      (omega arith, tt, tt, (omega arith, tt, tt, tt))

  mark_fits : (kind : Directive) → AllFit code plan 0 (ops.Mark (mark_of kind) ∷ [])
  mark_fits kind = (omega arith, tt, tt, tt)

  -- ---- statements of one line

  whole_line : (line above place : ℕ) (all : List Op) → behind code 0 all ≡ 0 → (HeightsStand code plan place 0 all → AllFit code plan 0 all) → Inside (place + length all) place all → Stands plan place (spots code above 0 all) → At code plan (place + length (in_line line all)) 0 above →
      AllFine code plan place (spots code above 0 all) (in_line line all)
  whole_line line above place all same fits inside stands end =
      let there : place + length (in_line line all) ≡ place + length all = omega (arith, length-in_line line all) in
      let end' = subst (λ h. At code plan (place + length all) h above) (sym same) (at_there code plan (place + length (in_line line all)) (place + length all) 0 above there end) in
      line_fine code plan above 0 (place + length all) place line all refl stands end' (fits (heights_stand code plan above place 0 all stands)) inside

  plain_call_fine : (line f k above place : ℕ) → IsCallable code false f → Stands plan place (call_spots false above) → At code plan (place + 3) 0 above → AllFine code plan place (call_spots false above) (in_line line (call_code false f k place))
  plain_call_fine line f k above place is stands end =
      let one : arguments_taken (slice_get code.functions f) ≡ 1 = ap arguments_taken is.1 ∙ is.2 in
      let argument : IsFine code plan place (spot 0 (above + 3)) (ops.Frame (place_of k)) = record {
        finds = omega arith;
        names = tt;
        goes_on = leads_at code plan (place + 1) 1 (above + 2) (spot 0 (above + 3)) (omega arith) (spot 1 (above + 2), stands.1.0, refl, omega arith);
      } in
      let call : IsFine code plan (place + 1) (spot 1 (above + 2)) (ops.Call f) = record {
        finds = omega (arith, one);
        names = (is.0, is.1);
        goes_on = (spot 1 (above + 1), stands.1.1.0, omega (arith, one));
      } in
      let dropped : IsFine code plan (place + 1 + 1) (spot 1 (above + 1)) ops.Drop = record {
        finds = omega arith;
        names = tt;
        goes_on = leads_at code plan (place + 1 + 1 + 1) 0 above (spot 1 (above + 1)) (omega arith) (at_there code plan (place + 3) (place + 1 + 1 + 1) 0 above (omega arith) end);
      } in
      (argument, (call, (dropped, tt)))

  task_call_fine : (line f k above place : ℕ) → IsCallable code true f → Stands plan place (call_spots true above) → At code plan (place + 7) 0 above → AllFine code plan place (call_spots true above) (in_line line (call_code true f k place))
  task_call_fine line f k above place is stands end =
      let one : arguments_taken (slice_get code.functions f) ≡ 1 = ap arguments_taken is.2 ∙ is.4 in
      let none : dimensions_taken (slice_get code.functions f) ≡ 0 = ap dimensions_taken is.2 ∙ ap dimensions_of_task is.3 ∙ is.5 in
      let at_call : At code plan (place + 5) 1 (above + 2) = at_there code plan (place + 1 + 1 + 1 + 1 + 1) (place + 5) 1 (above + 2) (omega arith) (spot 1 (above + 2), stands.1.1.1.1.1.0, refl, omega arith) in
      let at_drop : At code plan (place + 6) 1 (above + 1) = at_there code plan (place + 1 + 1 + 1 + 1 + 1 + 1) (place + 6) 1 (above + 1) (omega arith) (spot 1 (above + 1), stands.1.1.1.1.1.1.0, refl, omega arith) in
      let argument : IsFine code plan place (spot 0 (above + 7)) (ops.Frame (place_of k)) = record {
        finds = omega arith;
        names = tt;
        goes_on = leads_at code plan (place + 1) 1 (above + 6) (spot 0 (above + 7)) (omega arith) (spot 1 (above + 6), stands.1.0, refl, omega arith);
      } in
      let asks : IsFine code plan (place + 1) (spot 1 (above + 6)) (ops.Mark marks.Started) = record {
        finds = omega arith;
        names = tt;
        goes_on = leads_at code plan (place + 1 + 1) 2 (above + 5) (spot 1 (above + 6)) (omega arith) (spot 2 (above + 5), stands.1.1.0, refl, omega arith);
      } in
      let test : IsFine code plan (place + 1 + 1) (spot 2 (above + 5)) (ops.Jumpz (place + 5)) = record {
        finds = omega arith;
        names = tt;
        goes_on = (
          leads_at code plan (place + 5) 1 (above + 2) (spot 2 (above + 5)) (omega arith) at_call,
          leads_at code plan (place + 1 + 1 + 1) 1 (above + 4) (spot 2 (above + 5)) (omega arith) (spot 1 (above + 4), stands.1.1.1.0, refl, omega arith),
        );
      } in
      let submit : IsFine code plan (place + 1 + 1 + 1) (spot 1 (above + 4)) (ops.Submit f) = record {
        finds = omega (arith, one, none);
        names = (is.0, is.1, is.2, is.3);
        goes_on = leads_at code plan (place + 1 + 1 + 1 + 1) (1 - (arguments_taken (slice_get code.functions f) + dimensions_taken (slice_get code.functions f)) + 1) (above + 3) (spot 1 (above + 4)) (omega arith) (spot 1 (above + 3), stands.1.1.1.1.0, omega (arith, one, none), omega arith);
      } in
      let over : IsFine code plan (place + 1 + 1 + 1 + 1) (spot 1 (above + 3)) (ops.Jump (place + 6)) = record {
        finds = omega arith;
        names = tt;
        goes_on = leads_at code plan (place + 6) 1 (above + 1) (spot 1 (above + 3)) (omega arith) at_drop;
      } in
      let call : IsFine code plan (place + 1 + 1 + 1 + 1 + 1) (spot 1 (above + 2)) (ops.Call f) = record {
        finds = omega (arith, one);
        names = (is.0, is.2);
        goes_on = (spot 1 (above + 1), stands.1.1.1.1.1.1.0, omega (arith, one));
      } in
      let dropped : IsFine code plan (place + 1 + 1 + 1 + 1 + 1 + 1) (spot 1 (above + 1)) ops.Drop = record {
        finds = omega arith;
        names = tt;
        goes_on = leads_at code plan (place + 1 + 1 + 1 + 1 + 1 + 1 + 1) 0 above (spot 1 (above + 1)) (omega arith) (at_there code plan (place + 7) (place + 1 + 1 + 1 + 1 + 1 + 1 + 1) 0 above (omega arith) end);
      } in
      (argument, (asks, (test, (submit, (over, (call, (dropped, tt)))))))

  call_fine : (is_task : Bool) (line f k above place : ℕ) → IsCallable code is_task f → Stands plan place (call_spots is_task above) → At code plan (place + length (in_line line (call_code is_task f k place))) 0 above → AllFine code plan place (call_spots is_task above) (in_line line (call_code is_task f k place))
  call_fine false line f k above place is stands end = plain_call_fine line f k above place is stands end
  call_fine true line f k above place is stands end = task_call_fine line f k above place is stands end

  -- a condition, and the operators of a test behind it
  test_fine : (line : ℕ) (e : Expression) (place above : ℕ) (op : Op) (last : List Op) → Stands plan place (spots code above 0 (expression_code e place ++ op ∷ last)) →
      (Stands plan (place + length (expression_code e place)) (spots code above 1 (op ∷ last)) → AllFine code plan (place + length (expression_code e place)) (spots code above 1 (op ∷ last)) (in_line line (op ∷ last))) →
      AllFine code plan place (spots code above 0 (expression_code e place ++ op ∷ last)) (in_line line (expression_code e place ++ op ∷ last))
  test_fine line e place above op last stands fine =
      let ce = expression_code e place in
      let test = op ∷ last in
      let high = above + length test in
      let mid = place + length ce in
      let one = behind_expression code e place 0 in
      let parts = spots-append code above 0 1 ce test one in
      let stands' = subst (Stands plan place) parts stands in
      let front = stands_front plan place (spots code high 0 ce) (spots code above 1 test) stands' in
      let back = subst (λ n. Stands plan (place + n) (spots code above 1 test)) (length-spots code high 0 ce) (stands_back plan place (spots code high 0 ce) (spots code above 1 test) stands') in
      let end : At code plan mid 1 high = (spot 1 (above + length test), back.0, refl, omega arith) in
      let fit = expression_fits code plan e place 0 (heights_stand code plan high place 0 ce front) (end.0, end.1, end.2) in
      let condition = line_fine code plan high 0 mid place line ce refl front (subst (λ h. At code plan mid h high) (sym one) end) fit (expression_inside e mid place (omega arith)) in
      let there : mid ≡ place + length (in_line line ce) = omega (arith, length-in_line line ce) in
      let both = both_fine code plan place (spots code high 0 ce) (spots code above 1 test) (in_line line ce) (in_line line test) condition (subst (λ p. AllFine code plan p (spots code above 1 test) (in_line line test)) there (fine back)) in
      subst (λ ss. AllFine code plan place ss (in_line line (ce ++ test))) (sym parts) (subst (AllFine code plan place (spots code high 0 ce ++ spots code above 1 test)) (sym (in_line-append line ce test)) both)

  -- the spots of the second of two parts stand behind the first
  pub second_stands : (place : ℕ) (ss ss' : List Spot) (is : List Instr) → length ss ≡ length is → Stands plan place (ss ++ ss') → Stands plan (place + length is) ss'
  second_stands place ss ss' is e h = subst (λ n. Stands plan (place + n) ss') e (stands_back plan place ss ss' h)

  -- the spot at the place of a condition
  first_at : (place above : ℕ) (ce : List Op) (op : Op) (last : List Op) → Stands plan place (spots code above 0 (ce ++ op ∷ last)) → At code plan place 0 (above + length (ce ++ op ∷ last))
  first_at place above [] op last h = (spot 0 (above + length (op ∷ last)), h.0, refl, omega arith)
  first_at place above (x ∷ ce) op last h = (spot 0 (above + length (x ∷ ce ++ op ∷ last)), h.0, refl, omega arith)

  -- this statement's code goes on as the plan says wherever its spots stand, with the stack empty behind it and a rank of at most this
  abbrev IsFineAt : Statement → Type 0
  IsFineAt s = (place above : ℕ) → Stands plan place (spots_of code functions s place above) → At code plan (place + length (statement_code functions s place)) 0 above → AllFine code plan place (spots_of code functions s place above) (statement_code functions s place)

  statement_at : (s : Statement) (place above : ℕ) → Stands plan place (spots_of code functions s place above) → At code plan (place + length (statement_code functions s place)) 0 above → At code plan place 0 (above + length (statement_code functions s place))
  statement_at s place above stands end =
      let cs = statement_code functions s place in
      begins_at code plan place above (above + length cs) (spots_of code functions s place above) cs (length-spots_of code functions s place above) stands
      (spots_within code functions s place above (above + length cs) (omega arith)) (spots_of-begin code functions s place above) (omega arith) end

  if_fine : (line : ℕ) (e : Expression) (s : Statement) → IsFineAt s → IsFineAt (If line e s)
  if_fine line e s body place above h end =
      let ce = expression_code e place in
      let mid = place + length ce in
      let first = mid + 1 in
      let cs = statement_code functions s first in
      let out = first + length cs in
      let test = ops.Jumpz out in
      let high = above + length cs in
      let heads = spots code high 0 (ce ++ test ∷ []) in
      let head = in_line line (ce ++ test ∷ []) in
      let rs = spots_of code functions s first above in
      let length_head : length head ≡ length ce + 1 = omega (arith, length-in_line line (ce ++ test ∷ []), length-append ce (test ∷ [])) in
      let there : place + length head ≡ first = omega (arith, length_head) in
      let front = stands_front plan place heads rs h in
      let back = subst (λ p. Stands plan p rs) there (second_stands place heads rs head (length_line code functions line high (ce ++ test ∷ [])) h) in
      let end' = at_there code plan (place + length (head ++ cs)) out 0 above (omega (arith, length_head, length-append head cs)) end in
      let at_first = statement_at s first above back end' in
      let jump : IsFine code plan mid (spot 1 (high + 1)) test = record {
        finds = omega arith;
        names = tt;
        goes_on = (leads_at code plan out 0 above (spot 1 (high + 1)) (omega arith) end', leads_at code plan first 0 high (spot 1 (high + 1)) (omega arith) at_first);
      } in
      both_fine code plan place heads rs head cs (test_fine line e place high test [] front (λ stands. (jump, tt))) (subst (λ p. AllFine code plan p rs cs) (sym there) (body first above back end'))

  if_else_fine : (line : ℕ) (e : Expression) (s other : Statement) → IsFineAt s → IsFineAt other → IsFineAt (IfElse line e s other)
  if_else_fine line e s other body body' place above h end =
      let ce = expression_code e place in
      let mid = place + length ce in
      let first = mid + 1 in
      let cs = statement_code functions s first in
      let behind_s = first + length cs in
      let second = behind_s + 1 in
      let co = statement_code functions other second in
      let out = second + length co in
      let test = ops.Jumpz second in
      let over = in_line line (ops.Jump out ∷ []) in
      let head = in_line line (ce ++ test ∷ []) in
      let rank = above + length co + 1 in
      let high = rank + length cs in
      let heads = spots code high 0 (ce ++ test ∷ []) in
      let rs = spots_of code functions s first rank in
      let ro = spots_of code functions other second above in
      let ss = spot 0 rank ∷ [] in
      let length_head : length head ≡ length ce + 1 = omega (arith, length-in_line line (ce ++ test ∷ []), length-append ce (test ∷ [])) in
      let length_one : length (head ++ cs) ≡ length ce + 1 + length cs = omega (arith, length_head, length-append head cs) in
      let length_two : length (head ++ cs ++ over) ≡ length ce + 1 + length cs + 1 = omega (arith, length_one, length-append (head ++ cs) over) in
      let same = length_line code functions line high (ce ++ test ∷ []) in
      let same_one = length_both heads rs head cs same (length-spots_of code functions s first rank) in
      let same_two = length_both (heads ++ rs) ss (head ++ cs) over same_one refl in
      let two = stands_front plan place (heads ++ rs ++ ss) ro h in
      let one = stands_front plan place (heads ++ rs) ss two in
      let front = stands_front plan place heads rs one in
      let there : place + length head ≡ first = omega (arith, length_head) in
      let there_one : place + length (head ++ cs) ≡ behind_s = omega (arith, length_one) in
      let there_two : place + length (head ++ cs ++ over) ≡ second = omega (arith, length_two) in
      let stand_s = subst (λ p. Stands plan p rs) there (second_stands place heads rs head same one) in
      let stand_jump = subst (λ p. Stands plan p ss) there_one (second_stands place (heads ++ rs) ss (head ++ cs) same_one two) in
      let stand_o = subst (λ p. Stands plan p ro) there_two (second_stands place (heads ++ rs ++ ss) ro (head ++ cs ++ over) same_two h) in
      let end' = at_there code plan (place + length (head ++ cs ++ over ++ co)) out 0 above (omega (arith, length_two, length-append (head ++ cs ++ over) co)) end in
      let at_second = statement_at other second above stand_o end' in
      let at_jump : At code plan behind_s 0 rank = (spot 0 rank, stand_jump.0, refl, omega arith) in
      let at_first = statement_at s first rank stand_s at_jump in
      let tested : IsFine code plan mid (spot 1 (high + 1)) test = record {
        finds = omega arith;
        names = tt;
        goes_on = (leads_at code plan second 0 (above + length co) (spot 1 (high + 1)) (omega arith) at_second, leads_at code plan first 0 high (spot 1 (high + 1)) (omega arith) at_first);
      } in
      let jumps : IsFine code plan behind_s (spot 0 rank) (ops.Jump out) = record {
        finds = omega arith;
        names = tt;
        goes_on = leads_at code plan out 0 above (spot 0 rank) (omega arith) end';
      } in
      both_fine code plan place (heads ++ rs ++ ss) ro (head ++ cs ++ over) co
      (both_fine code plan place (heads ++ rs) ss (head ++ cs) over
      (both_fine code plan place heads rs head cs (test_fine line e place high test [] front (λ stands. (tested, tt))) (subst (λ p. AllFine code plan p rs cs) (sym there) (body first rank stand_s at_jump)))
      (subst (λ p. AllFine code plan p ss over) (sym there_one) (jumps, tt)))
      (subst (λ p. AllFine code plan p ro co) (sym there_two) (body' second above stand_o end'))

  while_fine : (line : ℕ) (e : Expression) (s : Statement) → IsFineAt s → IsFineAt (While line e s)
  while_fine line e s body place above h end =
      let ce = expression_code e place in
      let mid = place + length ce in
      let first = mid + 2 in
      let cs = statement_code functions s first in
      let behind_s = first + length cs in
      let out = behind_s + 1 in
      let test = ops.Jumpz out in
      let last = ops.Turn ∷ [] in
      let back = in_line line (ops.Jump place ∷ []) in
      let head = in_line line (ce ++ test ∷ last) in
      let rank = above + length ce + 3 in
      let heads = spots code above 0 (ce ++ test ∷ last) in
      let rs = spots_of code functions s first rank in
      let ss = spot 0 rank ∷ [] in
      let length_test = length-append ce (test ∷ last) in
      let length_head : length head ≡ length ce + 2 = omega (arith, length-in_line line (ce ++ test ∷ last), length_test) in
      let length_one : length (head ++ cs) ≡ length ce + 2 + length cs = omega (arith, length_head, length-append head cs) in
      let same = length_line code functions line above (ce ++ test ∷ last) in
      let same_one = length_both heads rs head cs same (length-spots_of code functions s first rank) in
      let one = stands_front plan place (heads ++ rs) ss h in
      let front = stands_front plan place heads rs one in
      let there : place + length head ≡ first = omega (arith, length_head) in
      let there_one : place + length (head ++ cs) ≡ behind_s = omega (arith, length_one) in
      let stand_s = subst (λ p. Stands plan p rs) there (second_stands place heads rs head same one) in
      let stand_jump = subst (λ p. Stands plan p ss) there_one (second_stands place (heads ++ rs) ss (head ++ cs) same_one h) in
      let end' = at_there code plan (place + length (head ++ cs ++ back)) out 0 above (omega (arith, length_one, length-append (head ++ cs) back)) end in
      let at_jump : At code plan behind_s 0 rank = (spot 0 rank, stand_jump.0, refl, omega arith) in
      let at_first = at_there code plan first (mid + 1 + 1) 0 (rank + length cs) (omega arith) (statement_at s first rank stand_s at_jump) in
      let at_place = first_at place above ce test last front in
      let turn = spot 0 (above + 1) in
      let jumps : IsFine code plan behind_s (spot 0 rank) (ops.Jump place) = record {
        finds = omega arith;
        names = tt;
        goes_on = leads_at code plan place 0 (above + length (ce ++ test ∷ last)) (spot 0 rank) (omega (arith, length_test)) at_place;
      } in
      both_fine code plan place (heads ++ rs) ss (head ++ cs) back
      (both_fine code plan place heads rs head cs (test_fine line e place above test last front (λ stands.
      let jump : IsFine code plan mid (spot 1 (above + 2)) test = record {
        finds = omega arith;
        names = tt;
        goes_on = (leads_at code plan out 0 above (spot 1 (above + 2)) (omega arith) end', leads_at code plan (mid + 1) 0 (above + 1) (spot 1 (above + 2)) (omega arith) (turn, stands.1.0, refl, omega arith));
      } in
      let turns : IsFine code plan (mid + 1) turn ops.Turn = record { finds = omega arith; names = tt; goes_on = (at_first.0, at_first.1, at_first.2) } in
      (jump, (turns, tt)))) (subst (λ p. AllFine code plan p rs cs) (sym there) (body first rank stand_s at_jump)))
      (subst (λ p. AllFine code plan p ss back) (sym there_one) (jumps, tt))

  module _ (scope : Scope) (callable : (f : ℕ) → f < scope.functions → IsCallable code (is_task_there (slice_get functions f)) f) where
    mutual
      statement_fine : (s : Statement) → AreWithin scope s → IsFineAt s
      statement_fine (Declare line k) within place above h end = tt
      statement_fine (Initialise line k e) within place above h end = whole_line line above place (assignment_code k e place) (behind_assignment code k e place) (assignment_fits k e place) (assignment_inside k e place) h end
      statement_fine (Empty line) within place above h end = tt
      statement_fine (Assign line k e) within place above h end = whole_line line above place (assignment_code k e place) (behind_assignment code k e place) (assignment_fits k e place) (assignment_inside k e place) h end
      statement_fine (AssignElement line i e) within place above h end =
          whole_line line above place (element_assignment_code i e place) (behind_element_assignment code i e place) (element_assignment_fits i e place) (element_assignment_inside i e place) h end
      statement_fine (Call line f k) within place above h end = call_fine (is_task_there (slice_get functions f)) line f k above place (callable f within.0) h end
      statement_fine (Mark line kind) within place above h end =
          whole_line line above place (ops.Mark (mark_of kind) ∷ []) (omega (arith, mark_gives code kind)) (λ stands. mark_fits kind) (tt, tt) h end
      statement_fine (Put line e) within place above h end =
          let last = ops.Out conversions.Char ∷ ops.Drop ∷ [] in
          whole_line line above place (expression_code e place ++ last) (behind_ended code e place 0 0 last refl) (λ stands. ended_fits e place 0 (ops.Out conversions.Char) (ops.Drop ∷ []) stands (omega arith, tt, tt, (omega arith, tt, tt, tt))) (ended_inside e place last (tt, (tt, tt))) h end
      statement_fine (Return line e) within place above h end =
          let last = ops.Ret ∷ [] in
          whole_line line above place (expression_code e place ++ last) (behind_ended code e place 0 0 last refl) (λ stands. ended_fits e place 0 ops.Ret [] stands (omega arith, tt, tt, tt)) (ended_inside e place last (tt, tt)) h end
      statement_fine (Block line all) within place above h end = statements_fine all within place above h end
      statement_fine (If line e s) within place above h end = if_fine line e s (statement_fine s within.1) place above h end
      statement_fine (IfElse line e s other) within place above h end = if_else_fine line e s other (statement_fine s within.1) (statement_fine other within.2) place above h end
      statement_fine (While line e s) within place above h end = while_fine line e s (statement_fine s within.1) place above h end

      pub statements_fine : (all : Statements) → AllWithin scope all → (place above : ℕ) → Stands plan place (spots_of_all code functions all place above) → At code plan (place + length (statements_code functions all place)) 0 above → AllFine code plan place (spots_of_all code functions all place above) (statements_code functions all place)
      statements_fine End within place above h end = tt
      statements_fine (More s rest) within place above h end =
          let first = statement_code functions s place in
          let mid = place + length first in
          let others = statements_code functions rest mid in
          let high = above + length others in
          let rs = spots_of code functions s place high in
          let rs' = spots_of_all code functions rest mid above in
          let back = second_stands place rs rs' first (length-spots_of code functions s place high) h in
          let end' = at_there code plan (place + length (first ++ others)) (mid + length others) 0 above (omega (arith, length-append first others)) end in
          let at_mid = begins_at code plan mid above high rs' others (length-spots_of_all code functions rest mid above) back (spots_within_all code functions rest mid above high (omega arith)) (spots_of_all-begin code functions rest mid above) (omega arith) end' in
          both_fine code plan place rs rs' first others (statement_fine s within.0 place high (stands_front plan place rs rs' h) at_mid) (statements_fine rest within.1 mid above back end')

-- A program's code is sound.
use Rattle.std.proofs.Common.{◌≡◌, ℕ, zero, suc, ◌+◌, ◌<◌, ◌≤◌, pos, Bool, true, false, nat_eq, if◌then◌else◌, List, [], ◌∷◌, ◌++◌, length, map, Option, Some, None, refl, sym, ap, ◌∙◌, subst, ⊎_elim, arith, length-append}
use Rattle.std.specs.Prelude.{All, slice_get}
use Rattle.std.proofs.lemmas.List.Elements.{All-from_recursion, All-contains, All-weaker}
use Rattle.std.proofs.lemmas.Option.{same_Some}
use Rattle.css_vm.specs.declared.code.Instr.{Instr}
use Rattle.css_vm.specs.declared.code.Op.{Op}
use Rattle.css_vm.specs.declared.code.Op.TheVariants as ops
use Rattle.css_vm.specs.Code.{Shape, Code, first_line}
use Rattle.css_vm.specs.Soundness.{Spot, IsFine, IsSoundBody, IsShapeOf, IsReached, Itself, Called, IsQuiet, IsSound}
use Rattle.css_small.specs.Tree.{Function, Program}
use Rattle.css_small.specs.Numbers.{Scope, AllWithin, IsNumbered, HasNumbers}
use Rattle.css_small_code.specs.Code.{in_line, is_task_there, statements_code, end_code, body_code, task_shape, function_code, main_code, program_code}
use Rattle.css_small_code.specs.Meaning.{frame_of}
use Rattle.css_small_code.proofs.Stands.{Stands, stands_front, stands_whole}
use Rattle.css_small_code.proofs.Spots.{spot, AllAtMost, both_at_most, BeginsEmpty, begins_with, spots, spots_at_most, At, at_there, leads_at, AllFine, both_fine, fine_at, line_fine, begins_at}
use Rattle.css_small_code.proofs.StatementSpots.{length_both, spots_of_all, length-spots_of_all, spots_within_all, spots_of_all-begin}
use Rattle.css_small_code.proofs.StatementsFine.{IsCallable, second_stands, statements_fine}
use Rattle.css_small_code.proofs.Inner.{IsInner, parts_inner, statements_inner}
use Rattle.css_small_code.proofs.Places.{scope_of, which, mapped_at, last_at, item_at, holds_at}

-- ---- a body's plan

-- the operators at an entry, by whether the body's code begins in the function's line
abbrev entry_ops : Bool → List Op
entry_ops within = if within then [] else (ops.Push (pos 0) ∷ ops.Drop ∷ [])

abbrev entry_if : Bool → ℕ → List Instr
entry_if within line = if within then [] else in_line line (ops.Push (pos 0) ∷ ops.Drop ∷ [])

abbrev body_if : List Function → Function → (within : Bool) → List Instr
body_if functions f within = body_code functions f (entry_if within f.line)

-- the spots of a body's code: those of its parts, each with ranks above those behind it
abbrev plan_of_body : Code → List Function → Function → (within : Bool) → List Spot
plan_of_body code functions f within =
    let at = length (entry_if within f.line) in
    let body = statements_code functions f.body at in
    spots code (2 + length body) 0 (entry_ops within) ++ spots_of_all code functions f.body at 2 ++ spots code 0 0 (ops.Push (pos 0) ∷ ops.Ret ∷ [])

length_entry : (code : Code) (within : Bool) (above line : ℕ) → length (spots code above 0 (entry_ops within)) ≡ length (entry_if within line)
length_entry code true above line = refl
length_entry code false above line = refl

entry_begins : (code : Code) (within : Bool) (above : ℕ) → BeginsEmpty (spots code above 0 (entry_ops within))
entry_begins code true above = tt
entry_begins code false above = refl

entry_at_most : (code : Code) (within : Bool) (above line most : ℕ) → above + length (entry_if within line) ≤ most → AllAtMost most (spots code above 0 (entry_ops within))
entry_at_most code true above line most le = tt
entry_at_most code false above line most le = spots_at_most code above 0 most (ops.Push (pos 0) ∷ ops.Drop ∷ []) le

entry_fine : (code : Code) (plan : List Spot) (within : Bool) (above line : ℕ) → Stands plan 0 (spots code above 0 (entry_ops within)) → At code plan (length (entry_if within line)) 0 above → AllFine code plan 0 (spots code above 0 (entry_ops within)) (entry_if within line)
entry_fine code plan true above line stands end = tt
entry_fine code plan false above line stands end =
    line_fine code plan above 0 2 0 line (ops.Push (pos 0) ∷ ops.Drop ∷ []) refl stands end (omega arith, tt, tt, (omega arith, tt, tt, tt)) (tt, (tt, tt))

-- the first spot, and each one's rank
first_spot : (xs : List Spot) (s : Spot) (rest : List Spot) → BeginsEmpty (xs ++ s ∷ rest) → (rank : ℕ) × (slice_get (xs ++ s ∷ rest) 0 ≡ Some (record { height = 0; rank = rank }))
first_spot [] s rest empty = (s.rank, ap (λ h. Some (spot h s.rank)) empty)
first_spot (x ∷ xs) s rest empty = (x.rank, ap (λ h. Some (spot h x.rank)) empty)

rank_at_most : (most : ℕ) (ss : List Spot) (k : ℕ) (s : Spot) → AllAtMost most ss → slice_get ss k ≡ Some s → s.rank ≤ most
rank_at_most most [] k s all h = cc
rank_at_most most (t ∷ ss) zero s all h = subst (λ x. x.rank ≤ most) (same_Some t s h) all.0
rank_at_most most (t ∷ ss) (suc k) s all h = rank_at_most most ss k s all.1 h

module _ (code : Code) (functions : List Function) (scope : Scope) (callable : (k : ℕ) → k < scope.functions → IsCallable code (is_task_there (slice_get functions k)) k) where
  body_fine : (f : Function) (within : Bool) → AllWithin scope f.body → AllFine code (plan_of_body code functions f within) 0 (plan_of_body code functions f within) (body_if functions f within)
  body_fine f within numbered =
      let plan = plan_of_body code functions f within in
      let entry = entry_if within f.line in
      let at = length entry in
      let body = statements_code functions f.body at in
      let last = end_code f.end in
      let high = 2 + length body in
      let re = spots code high 0 (entry_ops within) in
      let rb = spots_of_all code functions f.body at 2 in
      let rl = spots code 0 0 (ops.Push (pos 0) ∷ ops.Ret ∷ []) in
      let here : 0 + at ≡ at = omega arith in
      let same_entry = length_entry code within high f.line in
      let same_body = length-spots_of_all code functions f.body at 2 in
      let same = length_both re rb entry body same_entry same_body in
      let all = stands_whole plan in
      let front = stands_front plan 0 (re ++ rb) rl all in
      let stand_last = second_stands code functions plan 0 (re ++ rb) rl (entry ++ body) same all in
      let stand_entry = stands_front plan 0 re rb front in
      let stand_body = subst (λ p. Stands plan p rb) here (second_stands code functions plan 0 re rb entry same_entry front) in
      let at_last = at_there code plan (0 + length (entry ++ body)) (at + length body) 0 2 (omega (arith, length-append entry body)) (spot 0 2, stand_last.0, refl, omega arith) in
      let at_body = begins_at code plan at 2 high rb body same_body stand_body (spots_within_all code functions f.body at 2 high (omega arith)) (spots_of_all-begin code functions f.body at 2) (omega arith) at_last in
      let push : IsFine code plan (0 + length (entry ++ body)) (spot 0 2) (ops.Push (pos 0)) = record {
        finds = omega arith;
        names = tt;
        goes_on = leads_at code plan (0 + length (entry ++ body) + 1) 1 1 (spot 0 2) (omega arith) (spot 1 1, stand_last.1.0, refl, omega arith);
      } in
      let returns : IsFine code plan (0 + length (entry ++ body) + 1) (spot 1 1) ops.Ret = record { finds = omega arith; names = tt; goes_on = tt } in
      both_fine code plan 0 (re ++ rb) rl (entry ++ body) last
      (both_fine code plan 0 re rb entry body (entry_fine code plan within high f.line stand_entry at_body)
      (subst (λ p. AllFine code plan p rb body) (sym here) (statements_fine code functions plan scope callable f.body numbered at 2 stand_body at_last)))
      (push, (returns, tt))

  body_at_most : (f : Function) (within : Bool) → AllAtMost (length (body_if functions f within)) (plan_of_body code functions f within)
  body_at_most f within =
      let entry = entry_if within f.line in
      let at = length entry in
      let body = statements_code functions f.body at in
      let last = end_code f.end in
      let most = length (body_if functions f within) in
      let high = 2 + length body in
      let re = spots code high 0 (entry_ops within) in
      let rb = spots_of_all code functions f.body at 2 in
      let long : most ≡ at + length body + 2 = omega (arith, length-append (entry ++ body) last, length-append entry body) in
      both_at_most most (re ++ rb) (spots code 0 0 (ops.Push (pos 0) ∷ ops.Ret ∷ []))
      (both_at_most most re rb (entry_at_most code within high f.line most (omega (arith, long))) (spots_within_all code functions f.body at 2 most (omega (arith, long))))
      (omega (arith, long), (omega (arith, long), tt))

  body_begins : (f : Function) (within : Bool) → (rank : ℕ) × (slice_get (plan_of_body code functions f within) 0 ≡ Some (record { height = 0; rank = rank }))
  body_begins f within =
      let at = length (entry_if within f.line) in
      let re = spots code (2 + length (statements_code functions f.body at)) 0 (entry_ops within) in
      let rb = spots_of_all code functions f.body at 2 in
      let front = begins_with re rb (entry_begins code within _) (spots_of_all-begin code functions f.body at 2) in
      first_spot (re ++ rb) (spot 0 2) (spot 1 1 ∷ []) (begins_with (re ++ rb) (spot 0 2 ∷ spot 1 1 ∷ []) front refl)

  sound_body : (frame : ℕ) (parameters : List ℕ) (task : Option Shape) (f : Function) (within : Bool) → AllWithin scope f.body →
      IsSoundBody code (record { frame = frame; parameters = parameters; task = task; body = body_if functions f within }) (plan_of_body code functions f within)
  sound_body frame parameters task f within numbered =
      let plan = plan_of_body code functions f within in
      let is = body_if functions f within in
      record {
        first = body_begins f within;
        each = λ place s h.
            let i = fine_at code plan 0 place plan is s (body_fine f within numbered) h in
            let here : 0 + place ≡ place = omega arith in
            (i.0, i.1, subst (λ p. IsFine code plan p s i.0.op) here i.2, rank_at_most (length is) plan place s (body_at_most f within) h);
      }

-- ---- the program's plans

-- whether main's code begins in its line
abbrev begins_within : Program → Bool
begins_within p = nat_eq (first_line (statements_code p.functions p.main.body 0 ++ end_code p.main.end)) p.main.line

abbrev plan_of_function : Program → Function → List Spot
plan_of_function p f = plan_of_body (program_code p) [] f true

abbrev plan_of_main : Program → List Spot
plan_of_main p = plan_of_body (program_code p) p.functions p.main (begins_within p)

abbrev pub plans_of : Program → List (List Spot)
plans_of p = map (plan_of_function p) p.functions ++ plan_of_main p ∷ []

-- a function that may be called, as a task where it is one
called_alone : (p : Program) (k : ℕ) (f : Function) → slice_get p.functions k ≡ Some f → (is_task : Bool) → f.is_task ≡ is_task → IsCallable (program_code p) is_task k
called_alone p k f there false e = (function_code f, mapped_at function_code (main_code p.functions p.main) p.functions k f there, refl)
called_alone p k f there true e =
    (function_code f, task_shape, mapped_at function_code (main_code p.functions p.main) p.functions k f there, ap (λ b. if b then Some task_shape else None) e, refl, refl)

called_by_main : (p : Program) (k : ℕ) → k < length p.functions → IsCallable (program_code p) (is_task_there (slice_get p.functions k)) k
called_by_main p k less =
    let f = item_at p.functions k less in
    subst (λ o. IsCallable (program_code p) (is_task_there o) k) (sym f.1) (called_alone p k f.0 f.1 f.0.is_task refl)

function_sound : (p : Program) (f : Function) → IsNumbered 0 f → IsSoundBody (program_code p) (function_code f) (plan_of_function p f)
function_sound p f numbered =
    sound_body (program_code p) [] (scope_of 0 f) (λ k less. absurd (omega arith)) (frame_of f) (4 ∷ []) (if f.is_task then Some task_shape else None) f true numbered.within

main_sound : (p : Program) → IsNumbered (length p.functions) p.main → IsSoundBody (program_code p) (main_code p.functions p.main) (plan_of_main p)
main_sound p numbered =
    sound_body (program_code p) p.functions (scope_of (length p.functions) p.main) (called_by_main p) (frame_of p.main) [] None p.main (begins_within p) numbered.within

-- ---- tasks

-- the shape of a function that is a task
task_shaped : (code : Code) (f : Function) (is_task : Bool) (s : Shape) → (if is_task then Some task_shape else None) ≡ Some s → IsShapeOf code s (function_code f)
task_shaped code f false s h = cc
task_shaped code f true s h = subst (λ x. IsShapeOf code x (function_code f)) (same_Some task_shape s h) (omega arith, ((refl, omega arith, λ e. cc), tt))

quiet : (code : Code) (op : Op) → IsInner op → IsQuiet code op
quiet code (ops.Call k) h = tt
quiet code (ops.Submit k) h = h
quiet code (ops.Mark kind) h = h
quiet code (ops.Out c) h = h
quiet code _ h = tt

not_call : (op : Op) (k : ℕ) → IsInner op → op ≡ ops.Call k → ⊥
not_call op k inner e = subst IsInner e inner

module _ (p : Program) (numbers : HasNumbers p) where
  inner_function : (k : ℕ) (g : Function) → slice_get p.functions k ≡ Some g → All (λ i. IsInner i.op) (function_code g).body
  inner_function k g there =
      let is = holds_at (λ f. (f.parameters ≡ 1) × IsNumbered 0 f) p.functions k g numbers.functions there in
      let body = statements_inner [] (scope_of 0 g) (omega (arith, is.0)) refl g.body is.1.within 0 in
      All-from_recursion (λ (i : Instr). IsInner i.op) (function_code g).body (parts_inner (statements_code [] g.body 0) (end_code g.end) body (tt, (tt, tt)))

  -- tasks reach functions besides main only
  reached : (k : ℕ) → IsReached (program_code p) k → (g : Function) × (slice_get p.functions k ≡ Some g)
  reached k (Itself f s is task) =
      ⊎_elim
      (λ one. (one.0, one.1))
      (λ end. let none : None ≡ Some s = ap (λ r. r.task) end.1 ∙ task in cc)
      (which function_code (main_code p.functions p.main) p.functions k f is)
  reached k (Called caller f i from is has calls) =
      let g = reached caller from in
      let same = same_Some (function_code g.0) f (sym (mapped_at function_code (main_code p.functions p.main) p.functions caller g.0 g.1) ∙ is) in
      let inner = subst (λ r. All (λ (i : Instr). IsInner i.op) r.body) same (inner_function caller g.0 g.1) in
      absurd (not_call i.op k (All-contains (λ (i : Instr). IsInner i.op) f.body i inner has) calls)

pub is_sound : (p : Program) → HasNumbers p → IsSound (program_code p) (plans_of p)
is_sound p numbers =
    let code = program_code p in
    let last = main_code p.functions p.main in
    record {
      each = λ k f h.
          ⊎_elim
          (λ one.
          let numbered = holds_at (λ g. (g.parameters ≡ 1) × IsNumbered 0 g) p.functions k one.0 numbers.functions one.1 in
          (plan_of_function p one.0, mapped_at (plan_of_function p) (plan_of_main p) p.functions k one.0 one.1, subst (λ r. IsSoundBody code r (plan_of_function p one.0)) one.2 (function_sound p one.0 numbered.1)))
          (λ end.
          (plan_of_main p, subst (λ n. slice_get (plans_of p) n ≡ Some (plan_of_main p)) (sym end.0) (last_at (plan_of_function p) (plan_of_main p) p.functions), subst (λ r. IsSoundBody code r (plan_of_main p)) end.1 (main_sound p numbers.main.2)))
          (which function_code last p.functions k f h);
      main = (last, last_at function_code last p.functions, refl);
      shapes = λ k f s h task.
          ⊎_elim
          (λ one. subst (IsShapeOf code s) one.2 (task_shaped code one.0 one.0.is_task s (ap (λ r. r.task) one.2 ∙ task)))
          (λ end. let none : None ≡ Some s = ap (λ r. r.task) end.1 ∙ task in cc)
          (which function_code last p.functions k f h);
      quiet = λ k f from h.
          let g = reached p numbers k from in
          let same = same_Some (function_code g.0) f (sym (mapped_at function_code last p.functions k g.0 g.1) ∙ h) in
          subst (λ r. All (λ i. IsQuiet code i.op) r.body) same (All-weaker (λ (i : Instr). IsInner i.op) (λ i. IsQuiet code i.op) (λ i inner. quiet code i.op inner) (function_code g.0).body (inner_function p numbers k g.0 g.1));
    }
